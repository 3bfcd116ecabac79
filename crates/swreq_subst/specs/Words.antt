-- The fact that stands on the words of calls has one proof at most.
use Rattle.std.proofs.Props.{props}
use Rattle.swreq_machine.specs.swreq_world.Worlds.{IdWorld}
use Rattle.swreq_subst.specs.Saying.{HaveIds}

pub HaveIds-prop : (w : IdWorld) → IsProp (HaveIds w)
HaveIds-prop w = Prim.hlevel props
