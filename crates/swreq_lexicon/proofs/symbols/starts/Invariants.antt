use Rattle.std.proofs.Common.{◌≡◌, ℕ, ◌+◌, ◌*◌, ◌≤◌, length, get_or, take, sum}
use Rattle.swreq_lexicon.proofs.symbols.starts.Given as goal

abbrev pub invariant-loop-count : goal.invariant-loop-count
invariant-loop-count l = record {
  sum_is : l.start ≡ sum (take l.count-index l.counts);
  bound : l.start ≤ l.count-index * 1048576;
  len : length l.starts.items ≡ l.count-index + 1;
  each : (a : ℕ) → a ≤ l.count-index → get_or l.starts.items a 0 ≡ sum (take a l.counts);
}
