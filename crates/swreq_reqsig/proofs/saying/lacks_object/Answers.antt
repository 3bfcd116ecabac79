use Rattle.std.proofs.Common.{◌≡◌, ◌∙◌, false, sym, true}
use Rattle.swreq_reqsig.specs.declared.outlines.Kind.TheVariants.{IsEqual, IsObject}
use Rattle.swreq_reqsig.proofs.Selecting.{says_so}
use Rattle.swreq_reqsig.proofs.Spoken.{not_said}
use Rattle.swreq_reqsig.proofs.saying.lacks_object.Goals as goal

pub returns-then-is_said : goal.returns-then-is_said
returns-then-is_said c =
    let object = says_so c.args.selection.now c.args.name c.in_ok-marks.marks.items c.deref.result.now
    c.deref.ensures.value c.in_ok-marks.ensures IsObject c.is_said.result c.is_said.ensures in (
      (λ t. absurd (let z : false ≡ true = t in cc)),
      λ h. absurd (h.1 (object.0 c.if-is_said.true)),
    )

pub returns : goal.returns
returns c =
    let object = says_so c.args.selection.now c.args.name c.in_ok-marks.marks.items c.deref.result.now
    c.deref.ensures.value c.in_ok-marks.ensures IsObject c.is_said.result c.is_said.ensures in
    let apart = not_said c.is_said-2.result _ (says_so c.args.selection.now c.args.name c.in_ok-marks.marks.items
    c.deref-2.result.now c.deref-2.ensures.value c.in_ok-marks.ensures IsEqual c.is_said-2.result c.is_said-2.ensures) in (
      (λ t. (
        apart.0 t,
        λ says. let has = object.1 says in let z : false ≡ true = sym c.if-is_said.false ∙ has in cc,
      )),
      λ h. apart.1 h.0,
    )
