use Rattle.std.proofs.Common.{◌∙◌, [], ◌++◌, map, ap}
use Rattle.swreq_names.proofs.Pieces.{pieces_more}
use Rattle.swreq_names.specs.Spaces.{word}
use Rattle.swreq_lexicon.specs.Lexicons.{pair, proto_by, name_by}
use Rattle.swreq_lexicon.specs.Texts.{declared_by}
use Rattle.swreq_lexicon.proofs.lexicon.declared_in.Goals as goal

pub loop-p-preserved : goal.loop-p-preserved
loop-p-preserved c =
    let text = c.args.text.now in
    let proto = c.id-proto.ensures ∙ ap (proto_by c.args.protocols.now.protocols) c.word.ensures in
    pieces_more (declared_by text c.args.protocols.now.protocols c.args.names.now) c.args.written.now c.loop-p.p-index c.p-item.result []
    c.loop-p.pairs.items c.add_declared.new.pairs.items
    c.loop-p-test.true c.p-item.is c.loop-p.invariant
    (c.in_ok-add_declared.ensures
    ∙ (λ k. c.loop-p.pairs.items ++ map (λ m. pair (proto k) (name_by c.args.names.now (word text m.name))) (c.items.ensures k)))
