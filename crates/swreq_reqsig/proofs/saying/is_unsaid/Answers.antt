use Rattle.std.proofs.Common.{◌≡◌, ◌∙◌, ap, arith, false, sym, true}
use Rattle.std.proofs.lemmas.Option.{same_Some, slice_get-get_or}
use Rattle.std.proofs.lemmas.Result.{IfOk-weaker}
use Rattle.swreq_valid.specs.swreq_derive.Facts.{requirement_of}
use Rattle.swreq_reqsig.specs.declared.places.Place.{Place}
use Rattle.swreq_reqsig.specs.Selections.{lexicon_in, selected_in}
use Rattle.swreq_reqsig.proofs.Selecting.{outlines_count}
use Rattle.swreq_reqsig.proofs.Spoken.{unsaid_conformance, unsaid_equality, unsaid_object}
use Rattle.swreq_reqsig.proofs.saying.is_unsaid.Goals as goal

pub outline_at-requires : goal.outline_at-requires
outline_at-requires c =
    let l = c.requires in
    let count = outlines_count c.args.selection.now in
    omega (arith, l, count)

pub returns-then-is_itself : goal.returns-then-is_itself
returns-then-is_itself c y there =
    let f = c.args.selection.now in let s = f.setting in let x = lexicon_in f in let family = selected_in f in
    let law = unsaid_conformance x family y.proto (requirement_of s.text.table.now y.requirement) c.in-Conformance.subject
    c.in-Conformance.proto
    (c.outline_at.ensures y there ∙ c.in-Conformance.is) in
    let same = same_Some _ _ (sym (slice_get-get_or f.setting.places.now c.args.at _ c.requires) ∙ there) in
    let itself = c.is_itself.ensures.0 c.if-is_itself.true in (
      (λ t. absurd (let z : false ≡ true = t in cc)),
      λ unsaid. absurd ((law.0 unsaid).2 (itself.0, itself.1 ∙ ap (λ (z : Place). z.proto) same)),
    )

pub returns-else-is_itself : goal.returns-else-is_itself
returns-else-is_itself c =
    let f = c.args.selection.now in let s = f.setting in let x = lexicon_in f in let family = selected_in f in
    IfOk-weaker c.lacks_conformance.result _ _ (λ b h y there.
    let law = unsaid_conformance x family y.proto (requirement_of s.text.table.now y.requirement) c.in-Conformance.subject
    c.in-Conformance.proto
    (c.outline_at.ensures y there ∙ c.in-Conformance.is) in
    let same = same_Some _ _ (sym (slice_get-get_or f.setting.places.now c.args.at _ c.requires) ∙ there) in (
      (λ t. law.1 (
        (h.0 t).0,
        (h.0 t).1,
        λ i. let has = c.is_itself.ensures.1 (i.0, i.1 ∙ ap (λ (z : Place). z.proto) (sym same)) in
            let z : false ≡ true = sym c.if-is_itself.false ∙ has in cc,
      )),
      λ unsaid. h.1 ((law.0 unsaid).0, (law.0 unsaid).1),
    )) c.lacks_conformance.ensures

pub returns-in-Object : goal.returns-in-Object
returns-in-Object c =
    let f = c.args.selection.now in let s = f.setting in let x = lexicon_in f in let family = selected_in f in
    IfOk-weaker c.lacks_object.result _ _ (λ b h y there.
    let law = unsaid_object x family y.proto (requirement_of s.text.table.now y.requirement) c.in-Object.subject c.in-Object.owner
    (c.outline_at.ensures y there ∙ c.in-Object.is) in
    ((λ t. law.1 (h.0 t)), λ unsaid. h.1 (law.0 unsaid))) c.lacks_object.ensures

pub returns-in-Equality : goal.returns-in-Equality
returns-in-Equality c =
    let f = c.args.selection.now in let s = f.setting in let x = lexicon_in f in let family = selected_in f in
    IfOk-weaker c.lacks_equality.result _ _ (λ b h y there.
    let law =
    unsaid_equality x family y.proto (requirement_of s.text.table.now y.requirement) c.in-Equality.left c.in-Equality.right
    c.in-Equality.owner
    (c.outline_at.ensures y there ∙ c.in-Equality.is) in
    ((λ t. law.1 (h.0 t)), λ unsaid. h.1 (law.0 unsaid))) c.lacks_equality.ensures
