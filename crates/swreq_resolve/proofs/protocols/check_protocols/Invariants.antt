use Rattle.std.proofs.Common.{◌≡◌, drop}
use Rattle.swreq_closure.specs.Chains.{leads}
use Rattle.swreq_resolve.specs.First.{least}
use Rattle.swreq_resolve.specs.Refusals.{by_place, of_protocol}
use Rattle.swreq_resolve.proofs.protocols.check_protocols.Given as goal

abbrev pub invariant-loop-i : goal.invariant-loop-i
invariant-loop-i l = least l.best (by_place (of_protocol l.text l.declared (leads l.inherits)) l.i (drop l.i l.protocols))
    ≡ least l.fn.best (by_place (of_protocol l.text l.declared (leads l.inherits)) 0 l.protocols)
