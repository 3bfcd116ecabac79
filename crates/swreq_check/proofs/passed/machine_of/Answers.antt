use Rattle.std.proofs.Common.{◌<◌, arith, length, map}
use Rattle.std.proofs.lemmas.List.{length-map}
use Rattle.std.proofs.lemmas.List.Elements.{Contains-get_or}
use Rattle.swreq_machine.specs.swreq_world.ByTable.{signature_by}
use Rattle.swreq_machine.specs.swreq_world.Worlds.{no_signature, signature_at}
use Rattle.swreq_check.specs.Passed.{rules_of, world_of}
use Rattle.swreq_check.proofs.OfChecks.{only_memory}
use Rattle.swreq_check.proofs.passed.machine_of.Goals as goal

pub invariant_of-checked : goal.invariant_of-checked
invariant_of-checked c = c.requires.passed.passed.rules_are

pub want_of_memory-requires : goal.want_of_memory-requires
want_of_memory-requires c =
    let w = world_of c.args.table.now c.args.p.now in
    let ids = c.args.p.now.world.now.signatures in
    let within : c.args.f.place < length (map (signature_by c.args.table.now) ids) =
    omega (arith, length-map ids (signature_by c.args.table.now), c.requires.f) in
    only_memory c.args.p.now.limits w (rules_of c.args.p.now) c.requires.passed.passed.built.signatures (signature_at w c.args.f)
    (Contains-get_or w.signatures c.args.f.place no_signature within) c.in-Err.refused c.in-Err.ensures.only
