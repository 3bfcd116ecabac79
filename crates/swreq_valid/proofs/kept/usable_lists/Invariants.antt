use Rattle.std.proofs.Common.{◌≡◌, vec_len}
use Rattle.swreq_valid.specs.Keeping.{TellEach}
use Rattle.swreq_symbols.specs.Texts.{world_of}
use Rattle.swreq_valid.proofs.kept.usable_lists.Given as goal

abbrev pub invariant-loop-rank : goal.invariant-loop-rank
invariant-loop-rank l = record {
  told : TellEach (world_of l.text) l.rules l.lists.items l.rank;
  count : vec_len l.lists ≡ l.rank;
}
