use Rattle.std.proofs.Common.{◌≡◌, ◌++◌, ◌∙◌, List, OnOk, map, subst}
use Rattle.swreq_valid.specs.swreq_derive.Derivation.{TermRequirement}
use Rattle.swreq_valid.specs.swreq_derive.Facts.{requirement_of}
use Rattle.swreq_valid.specs.swreq_lexicon.Views.{LexiconView}
use Rattle.swreq_reqsig.specs.Texts.{protocol_line}
use Rattle.swreq_reqsig.proofs.Printed.{numbered_are, numbered_known}
use Rattle.swreq_valid.proofs.swreq_symbols.OfTexts.{text_over}
use Rattle.swreq_reqsig.proofs.texts.put_numbered.Goals as goal

pub put_line-requires : goal.put_line-requires
put_line-requires c =
    numbered_known c.args.text.now.world.now c.args.text.now.table.now c.args.p c.bare_requirements.result.now c.deref.result.now
    c.args.numbers.now
    c.bare_requirements.ensures (c.deref.ensures.value ∙ c.in_ok-list.ensures) (text_over c.args.text.now)

pub returns : goal.returns
returns c =
    let a = c.args in
    let list = c.deref.result.now in
    let old = a.out.now.items in
    let new = c.put_line.new.out.items in
    let printed = c.put_line.result in
    subst (λ (rs : List TermRequirement). OnOk printed (new ≡ old ++ protocol_line a.text.now.world.now.lexicon a.p rs))
    (numbered_are a.text.now.world.now a.text.now.table.now a.p c.bare_requirements.result.now list a.numbers.now
    c.bare_requirements.ensures
    (c.deref.ensures.value ∙ c.in_ok-list.ensures))
    (subst (λ (x : LexiconView). OnOk printed (new ≡ old ++ protocol_line x a.p (map (requirement_of a.text.now.table.now) list)))
    c.lexicon.ensures c.put_line.ensures)
