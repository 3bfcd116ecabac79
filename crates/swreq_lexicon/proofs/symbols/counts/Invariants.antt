use Rattle.std.proofs.Common.{◌≡◌, ◌<◌, ℕ, length, get_or}
use Rattle.swreq_closure.specs.Bits.{count_below, has}
use Rattle.swreq_lexicon.specs.Associated.{name}
use Rattle.swreq_lexicon.specs.Symbols.{row_of}
use Rattle.swreq_lexicon.proofs.symbols.counts.Given as goal

abbrev pub invariant-loop-rank : goal.invariant-loop-rank
invariant-loop-rank l = record {
  len : length l.counts.items ≡ l.rank;
  each : (a : ℕ) → a < l.rank → get_or l.counts.items a 0 ≡ count_below (has (row_of l.members (name a))) l.protocols;
}
