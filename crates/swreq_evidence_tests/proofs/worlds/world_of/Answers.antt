use Rattle.std.proofs.Common.{refl}
use Rattle.swreq_evidence_tests.proofs.worlds.world_of.Goals as goal

pub returns-clause-ids : goal.returns-clause-ids
returns-clause-ids c =
    c.names_have_ids.ensures c.resolve.new.table c.in_ok-skeleton.skeleton c.in_ok-world.world c.in_ok-skeleton.ensures
    c.in_ok-world.ensures.world (c.in_ok-world.ensures.ok refl)
