use Rattle.std.proofs.Common.{subst, sym}
use Rattle.std.proofs.lemmas.Result.{IfOk-weaker}
use Rattle.swreq_reqsig.specs.declared.outlines.Outline.{Outline}
use Rattle.swreq_reqsig.specs.Named.{AreNoted}
use Rattle.swreq_reqsig.proofs.Naming.{noted_conformance, noted_equality, noted_object}
use Rattle.swreq_reqsig.proofs.named.note_outline.Goals as goal

pub returns-in-Conformance : goal.returns-in-Conformance
returns-in-Conformance c =
    let lists = c.args.lists.now in
    IfOk-weaker c.note.result _ _ (λ x h. subst (λ (z : Outline). AreNoted z c.args.k lists c.note.new.lists) (sym c.in-Conformance.is)
    (noted_conformance c.in-Conformance.subject c.in-Conformance.proto c.args.k lists c.note.new.lists h)) c.note.ensures

pub returns-in-Object : goal.returns-in-Object
returns-in-Object c =
    let lists = c.args.lists.now in
    IfOk-weaker c.note-in-Object.result _ _
    (λ x h. subst (λ (z : Outline). AreNoted z c.args.k lists c.note-in-Object.new.lists) (sym c.in-Object.is)
    (noted_object c.in-Object.subject c.in-Object.owner c.args.k lists c.note-in-Object.new.lists h)) c.note-in-Object.ensures

pub returns-in_ok-note-in-Equality : goal.returns-in_ok-note-in-Equality
returns-in_ok-note-in-Equality c =
    let lists = c.args.lists.now in
    let mid = c.note-in-Equality.new.lists in
    let new = c.note-in-Equality-2.new.lists in
    IfOk-weaker c.note-in-Equality-2.result _ _ (λ x h. subst (λ (z : Outline). AreNoted z c.args.k lists new) (sym c.in-Equality.is)
    (noted_equality c.in-Equality.left c.in-Equality.right c.in-Equality.owner c.args.k lists mid new c.in_ok-note-in-Equality.ensures h))
    c.note-in-Equality-2.ensures
