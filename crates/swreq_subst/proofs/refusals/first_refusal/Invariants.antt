use Rattle.std.proofs.Common.{◌≡◌, None, drop}
use Rattle.std.specs.List.{flat_map}
use Rattle.swreq_resolve.specs.First.{least}
use Rattle.swreq_subst.specs.Refusals.{of_call, refusals}
use Rattle.swreq_subst.proofs.refusals.first_refusal.Given as goal

abbrev pub invariant-loop-k : goal.invariant-loop-k
invariant-loop-k l =
    least l.best (flat_map (of_call l.words.world.now l.words.text.now) (drop l.k l.calls))
    ≡ least None (refusals l.words.world.now l.words.text.now l.calls)
