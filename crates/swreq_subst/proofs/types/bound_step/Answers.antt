use Rattle.std.proofs.Common.{◌∙◌, sym, subst}
use Rattle.swreq_resolve.specs.swreq_names.Spaces.{word, protocol_of}
use Rattle.swreq_machine.specs.swreq_param.declared.ids.AssocId.{AssocId}
use Rattle.swreq_machine.specs.swreq_lexicon.Lexicons.{assoc_by, name_by, pair, proto_by}
use Rattle.swreq_machine.specs.swreq_world.ReadBack.{SaysAssociated}
use Rattle.swreq_subst.specs.Refusals.{declared}
use Rattle.swreq_subst.proofs.Steps.{declared_there}
use Rattle.swreq_subst.proofs.types.bound_step.Goals as goal

pub returns : goal.returns
returns c =
    let w = c.args.words.now.world.now in
    let x = w.lexicon in
    let text = c.args.words.now.text.now in
    let p = c.args.proto in
    let a = c.args.name in
    let (i, at, declares_it) = declared_there text (declared w) p a (protocol_of (declared w) (word text p)) c.requires in
    let has = c.args.words.now.ids.associated (word text p) (word text a) i at declares_it in
    let says : SaysAssociated text x (assoc_by x.associated (proto_by x.protocols (word text p)) (name_by x.names (word text a))) p a
    = record {
      pair = pair (proto_by x.protocols (word text p)) (name_by x.names (word text a));
      there = has.associated;
      protocol = has.protocol;
      name = has.name;
    } in
    let names = c.lexicon-lexicon.ensures in
    let proto = c.proto_id-p.ensures ∙ (λ i. proto_by (names i).protocols (c.word.ensures i)) in
    let name = c.name_id-a.ensures ∙ (λ i. name_by (names i).names (c.word-2.ensures i)) in
    let is = c.assoc_id.ensures ∙ (λ i. assoc_by (names i).associated (proto i) (name i)) in
    subst (λ (d : AssocId). SaysAssociated text x d p a) (sym is) says
