use Rattle.std.proofs.Common.{subst}
use Rattle.swreq_print.specs.swreq_decl.declared.skeleton.Skeleton.{Skeleton}
use Rattle.swreq_world.specs.WorldOf.{IsWorldOf}
use Rattle.swreq_top.proofs.laws.one_world.Goals as goal

pub returns : goal.returns
returns c = λ w v f g.
    c.world_is_one.ensures g.skeleton w v
    (subst (λ (s : Skeleton). IsWorldOf c.args.text.now s w)
    (c.one_skeleton.ensures f.skeleton g.skeleton f.stands g.stands) f.world) g.world
