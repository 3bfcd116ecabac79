use Rattle.std.proofs.Common.{◌≡◌, drop}
use Rattle.swreq_resolve.specs.First.{least}
use Rattle.swreq_resolve.specs.Refusals.{by_place, of_struct}
use Rattle.swreq_resolve.proofs.signatures.check_structs.Given as goal

abbrev pub invariant-loop-i : goal.invariant-loop-i
invariant-loop-i l =
    least l.best (by_place (of_struct l.text l.declared) l.i (drop l.i l.structs))
    ≡ least l.fn.best (by_place (of_struct l.text l.declared) 0 l.structs)
