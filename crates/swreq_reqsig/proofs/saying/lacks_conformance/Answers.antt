use Rattle.std.proofs.Common.{◌≡◌, ◌∙◌, Bool, false, List, subst, sym, true}
use Rattle.swreq_reqsig.specs.declared.outlines.Kind.TheVariants.{IsEqual}
use Rattle.swreq_reqsig.specs.Marks.{IsMarked}
use Rattle.swreq_reqsig.proofs.Passing.{mark_read, read_mark}
use Rattle.swreq_reqsig.proofs.Selecting.{says_so}
use Rattle.swreq_reqsig.proofs.Spoken.{not_said}
use Rattle.swreq_reqsig.proofs.saying.lacks_conformance.Goals as goal

pub returns-then-is_marked : goal.returns-then-is_marked
returns-then-is_marked c =
    let proto = c.args.proto in
    let mark = mark_read c.deref.result.now proto.rank (sym c.is_marked.ensures ∙ c.if-is_marked.true) in (
      (λ t. absurd (let z : false ≡ true = t in cc)),
      λ h. absurd (h.1 ((c.in_ok-marks.ensures proto).0 (subst (λ (z : List Bool). IsMarked z proto) c.deref.ensures.value mark))),
    )

pub returns : goal.returns
returns c =
    let proto = c.args.proto in
    let apart = not_said c.is_said.result _ (says_so c.args.selection.now c.args.name c.in_ok-marks.marks.items
    c.deref-2.result.now c.deref-2.ensures.value c.in_ok-marks.ensures IsEqual c.is_said.result c.is_said.ensures) in (
      (λ t. (
        apart.0 t,
        λ says. let mark = subst (λ (z : List Bool). IsMarked z proto) (sym c.deref.ensures.value) ((c.in_ok-marks.ensures proto).1 says) in
            let has = c.is_marked.ensures ∙ read_mark c.deref.result.now proto.rank mark in
            let z : false ≡ true = sym c.if-is_marked.false ∙ has in cc,
      )),
      λ h. apart.1 h.0,
    )
