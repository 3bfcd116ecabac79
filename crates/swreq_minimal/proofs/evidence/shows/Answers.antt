use Rattle.std.proofs.Common.{◌∙◌, IsTrue, length, subst, sym}
use Rattle.swreq_homotopy.specs.Laws.{EvidenceLinks}
use Rattle.swreq_minimal.proofs.Showing.{MarksLast, some_shown}
use Rattle.swreq_minimal.proofs.evidence.shows.Goals as goal

pub returns : goal.returns
returns c h =
    some_shown c.args.rules.now c.args.loops.now c.deref-2.result.now c.deref-3.result.now c.in_ok-found.found
    (subst (EvidenceLinks c.args.rules.now) (c.deref.ensures.value ∙ sym c.deref-2.ensures.value) c.evidence_links.ensures)
    (subst (MarksLast (length c.args.rules.now)) (sym c.deref-3.ensures.value) c.in_ok-may.ensures.last)
    c.in_ok-found.ensures (subst IsTrue c.is_some.ensures h)
