use Rattle.std.proofs.Common.{◌≡◌, drop}
use Rattle.swreq_resolve.specs.First.{least}
use Rattle.swreq_resolve.specs.Refusals.{by_place, of_nested}
use Rattle.swreq_resolve.proofs.signatures.check_all_nested.Given as goal

abbrev pub invariant-loop-j : goal.invariant-loop-j
invariant-loop-j l = least l.best (by_place (of_nested l.text l.declared l.outer) l.j (drop l.j l.functions))
    ≡ least l.fn.best (by_place (of_nested l.text l.declared l.outer) 0 l.functions)
