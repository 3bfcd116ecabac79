use Rattle.std.proofs.Common.{◌≡◌, ◌++◌}
use Rattle.swreq_lexicon.specs.swreq_derive.Facts.{params_of_depth}
use Rattle.swreq_print.proofs.signatures.add_params.Given as goal

abbrev pub invariant-loop-index : goal.invariant-loop-index
invariant-loop-index l = l.params.items ≡ l.fn.params.items ++ params_of_depth l.depth l.index
