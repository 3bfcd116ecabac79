use Rattle.std.proofs.Common.{subst}
use Rattle.std.specs.Bool.{Decides}
use Rattle.std.proofs.lemmas.Result.{IfOk-weaker}
use Rattle.swreq_valid.specs.swreq_derive.Facts.{requirement_of}
use Rattle.swreq_valid.specs.swreq_derive.Derivation.Source.{SelfOf}
use Rattle.swreq_valid.specs.swreq_correspondence.Symbols.{Word, right_side}
use Rattle.swreq_valid.specs.swreq_symbols.Meaning.{symbols_of}
use Rattle.swreq_valid.specs.swreq_symbols.Vanishing.{Links}
use Rattle.swreq_valid.specs.Keeping.{kept_facts}
use Rattle.swreq_valid.specs.Rounds.{last_rules}
use Rattle.swreq_reqsig.proofs.ByRules.{not_usable, usable_by_words}
use Rattle.swreq_reqsig.proofs.Placing.{place_known, place_numbered}
use Rattle.swreq_valid.proofs.swreq_symbols.OfTexts.{text_over}
use Rattle.swreq_valid.specs.swreq_symbols.Texts.{world_of}
use Rattle.swreq_reqsig.proofs.derived.is_derivable.Goals as goal

pub returns-then-not-usable : goal.returns-then-not-usable
returns-then-not-usable c keep made =
    let t = c.args.text.now in
    let x = c.args.place.now in
    let w = world_of t in
    let r = requirement_of t.table.now x.requirement in
    not_usable w (text_over t).closed keep c.args.protocols.now made x.proto c.requires.proto r c.usable.result
    (c.usable.ensures.usable w (kept_facts w keep) r made.usable (place_numbered t.world.now t.table.now x c.requires))
    c.if-not-usable.true

pub equation-requires : goal.equation-requires
equation-requires c =
    place_known c.args.text.now.world.now c.args.text.now.table.now (text_over c.args.text.now) c.args.place.now c.requires

pub returns : goal.returns
returns c keep made =
    let t = c.args.text.now in
    let x = c.args.place.now in
    let w = world_of t in
    let r = requirement_of t.table.now x.requirement in
    let rules = last_rules c.args.protocols.now.rounds in
    IfOk-weaker c.are_linked.result _ _ (λ b d.
    usable_by_words w (text_over t).closed keep c.args.protocols.now made x.proto c.requires.proto r c.usable.result b
    (c.usable.ensures.usable w (kept_facts w keep) r made.usable (place_numbered t.world.now t.table.now x c.requires))
    c.if-not-usable.false
    (subst (λ (z : Word). Decides b (Links rules z (right_side (symbols_of t.world.now.lexicon) (SelfOf x.proto) r)))
    c.in_ok-sides.ensures.left
    (subst (λ (z : Word). Decides b (Links rules c.in_ok-sides.sides.0 z)) c.in_ok-sides.ensures.right
    (subst (λ z. Decides b (Links z c.in_ok-sides.sides.0 c.in_ok-sides.sides.1)) c.rules.ensures d)))) c.are_linked.ensures
