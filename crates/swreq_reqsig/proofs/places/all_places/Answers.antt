use Rattle.std.proofs.Common.{arith}
use Rattle.swreq_valid.proofs.OfProtocols.{proto_within}
use Rattle.swreq_reqsig.specs.Places.{all_places}
use Rattle.swreq_reqsig.proofs.Placing.{one_protocol, protocols_done}
use Rattle.swreq_valid.proofs.swreq_symbols.OfTexts.{ids_over}
use Rattle.swreq_reqsig.proofs.places.all_places.Goals as goal

pub bare_requirements-list-requires : goal.bare_requirements-list-requires
bare_requirements-list-requires c = proto_within c.args.text.now.world.now.lexicon (ids_over c.args.text.now) c.loop-k.k
    c.proto_at-p.result c.proto_at-p.ensures

pub loop-k-preserved : goal.loop-k-preserved
loop-k-preserved c =
    let w = c.args.text.now.world.now in
    one_protocol w w.lexicon.written_order c.loop-k.k c.proto_at-p.result c.bare_requirements-list.result.now c.loop-k.all.items
    c.add_places.new.all.items (all_places w) c.proto_at-p.ensures c.bare_requirements-list.ensures
    c.in_ok-add_places.ensures c.loop-k.invariant

pub returns : goal.returns
returns c =
    let w = c.args.text.now.world.now in
    protocols_done w w.lexicon.written_order c.loop-k.k c.loop-k.all.items (all_places w)
    (let a = c.loop-k-test.false in let b = c.protocols-k-end.ensures in
    let e = (ids_over c.args.text.now).each_once in omega (arith, a, b, e))
    c.loop-k.invariant
