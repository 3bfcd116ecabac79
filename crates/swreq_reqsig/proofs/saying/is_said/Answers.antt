use Rattle.std.proofs.Common.{◌≡◌, ◌∙◌, false, inl, inr, length, List, refl, subst, sym, true, ℕ}
use Rattle.swreq_reqsig.specs.Outlines.{IsSaidIn}
use Rattle.swreq_reqsig.proofs.Selecting.{named_in}
use Rattle.swreq_reqsig.proofs.Spoken.{said_by_list}
use Rattle.swreq_reqsig.proofs.saying.is_said.Goals as goal

pub returns-then-is_said_in : goal.returns-then-is_said_in
returns-then-is_said_in c = ((λ t. (c.is_said_in.ensures.0 c.if-is_said_in.true).says), λ said. refl)

pub returns-then-not-is_any_marked : goal.returns-then-not-is_any_marked
returns-then-not-is_any_marked c =
    let f = c.args.selection.now in
    let in_list = λ (z : List ℕ). IsSaidIn f.setting.outlines.now f.flags.now z (length z) c.args.kind c.args.name c.args.marks.now in
    let found = said_by_list f.setting.outlines.now f.flags.now f.setting.named.now (named_in f.setting) c.args.kind
    c.args.name
    c.args.marks.now in (
      (λ t. absurd (let z : false ≡ true = t in cc)),
      λ said. absurd (elim (found said) [
        | inl i ↦ (let has = c.is_said_in.ensures.1 (subst in_list (sym c.places_of.ensures.places) i) in
            let z : false ≡ true = sym c.if-is_said_in.false ∙ has in cc)
        | inr (i, (q, m)) ↦ c.is_any_marked.ensures c.if-not-is_any_marked.true q m
      ]),
    )

pub returns : goal.returns
returns c =
    let f = c.args.selection.now in
    let in_list = λ (z : List ℕ). IsSaidIn f.setting.outlines.now f.flags.now z (length z) c.args.kind c.args.name c.args.marks.now in
    let found = said_by_list f.setting.outlines.now f.flags.now f.setting.named.now (named_in f.setting) c.args.kind
    c.args.name
    c.args.marks.now in (
      (λ t. (c.is_said_in-2.ensures.0 t).says),
      λ said. elim (found said) [
        | inl i ↦ absurd (let has = c.is_said_in.ensures.1 (subst in_list (sym c.places_of.ensures.places) i) in
            let z : false ≡ true = sym c.if-is_said_in.false ∙ has in cc)
        | inr (i, some) ↦ c.is_said_in-2.ensures.1 (subst in_list (sym c.places_of-2.ensures.places) i)
      ],
    )
