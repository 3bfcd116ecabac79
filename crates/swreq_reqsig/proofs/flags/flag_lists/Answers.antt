use Rattle.std.proofs.Common.{◌≡◌, ◌++◌, ◌∷◌, [], arith, length, refl, rules}
use Rattle.swreq_valid.proofs.OfProtocols.{proto_within}
use Rattle.swreq_reqsig.specs.Families.{flag_lists}
use Rattle.swreq_reqsig.proofs.InLists.{lists_done, one_list}
use Rattle.swreq_valid.proofs.swreq_symbols.OfTexts.{ids_over}
use Rattle.swreq_reqsig.proofs.flags.flag_lists.Goals as goal

pub bare_requirements-count-requires : goal.bare_requirements-count-requires
bare_requirements-count-requires c = proto_within c.args.text.now.world.now.lexicon (ids_over c.args.text.now) c.loop-k.k
    c.proto_at-p.result c.proto_at-p.ensures

pub loop-k-preserved : goal.loop-k-preserved
loop-k-preserved c =
    let w = c.args.text.now.world.now in
    let list = c.bare_requirements-count.result.now in
    let longer : c.push.new.self.items ≡ c.loop-k.lists.items ++ c.take_flags.result.now ∷ [] = search rules in
    one_list w w.lexicon.written_order c.loop-k.k (length list) c.proto_at-p.result list c.loop-k.rest.now c.take_flags.result.now
    c.drop_flags-rest.result.now c.loop-k.lists.items c.push.new.self.items (flag_lists w c.args.flags.now) c.proto_at-p.ensures
    c.bare_requirements-count.ensures refl c.take_flags.ensures c.drop_flags-rest.ensures longer c.loop-k.invariant

pub returns : goal.returns
returns c =
    let w = c.args.text.now.world.now in
    lists_done w w.lexicon.written_order c.loop-k.k c.loop-k.rest.now c.loop-k.lists.items (flag_lists w c.args.flags.now)
    (let a = c.loop-k-test.false in let b = c.protocols-k-end.ensures in
    let e = (ids_over c.args.text.now).each_once in omega (arith, a, b, e))
    c.loop-k.invariant
