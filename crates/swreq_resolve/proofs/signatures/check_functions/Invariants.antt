use Rattle.std.proofs.Common.{◌≡◌, drop}
use Rattle.swreq_resolve.specs.First.{least}
use Rattle.swreq_resolve.specs.Refusals.{by_place, of_function}
use Rattle.swreq_resolve.proofs.signatures.check_functions.Given as goal

abbrev pub invariant-loop-i : goal.invariant-loop-i
invariant-loop-i l = least l.best (by_place (of_function l.text l.declared) l.i (drop l.i l.functions))
    ≡ least l.fn.best (by_place (of_function l.text l.declared) 0 l.functions)
