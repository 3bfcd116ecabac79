use Rattle.std.proofs.Common.{arith, refl, ap, map, ◌∙◌, ◌++◌}
use Rattle.swreq_world.specs.Worlds.{requirements_of}
use Rattle.swreq_valid.specs.Plans.{bare, in_protocol, in_protocols}
use Rattle.swreq_valid.proofs.Listing.{parts_all}
use Rattle.swreq_valid.proofs.OfProtocols.{part_at, proto_within}
use Rattle.swreq_valid.proofs.basic.requirements.Goals as goal

pub bare_requirements-requires : goal.bare_requirements-requires
bare_requirements-requires c = proto_within c.args.world.now.lexicon c.requires c.loop-k.k c.proto_at-p.result c.proto_at-p.ensures

pub loop-k-preserved : goal.loop-k-preserved
loop-k-preserved c =
    let w = c.args.world.now in
    part_at (in_protocols w) (λ p. map (in_protocol p) (bare (requirements_of w p)))
    (λ p ps. refl) w.lexicon.written_order c.loop-k.k c.proto_at-p.result
    c.loop-k.v.items c.add_requirements.new.wanted.items (in_protocols w w.lexicon.written_order) c.proto_at-p.ensures
    (c.in_ok-add_requirements.ensures ∙ ap (λ z. c.loop-k.v.items ++ map (in_protocol c.proto_at-p.result) z) c.bare_requirements.ensures)
    c.loop-k.invariant

pub returns : goal.returns
returns c =
    let w = c.args.world.now in
    parts_all (in_protocols w) (λ p. map (in_protocol p) (bare (requirements_of w p))) refl
    (λ p ps. refl) w.lexicon.written_order c.loop-k.k c.loop-k.v.items (in_protocols w w.lexicon.written_order)
    (let a = c.loop-k-test.false in let b = c.protocols-k-end.ensures in let e = c.requires.each_once in
    omega (arith, a, b, e)) c.loop-k.invariant
