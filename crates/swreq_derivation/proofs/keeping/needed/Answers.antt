use Rattle.std.proofs.Common.{List, subst, sym}
use Rattle.swreq_derive.specs.{declared.lines.Line.{Line}, Lines.{AreDerived}}
use Rattle.swreq_derivation.specs.{Marks.{AreNeeded}, Needed.{AreAllUsed, AreSomeOf, EndIn, StateOnce}}
use Rattle.swreq_derivation.proofs.KeptLines.{derived_left, end_left, once_left, some_left, used_left}
use Rattle.swreq_derivation.proofs.keeping.needed.Goals as goal

pub returns : goal.returns
returns c =
    let marks = c.deref.result.now in
    let lines = c.args.lines.now in
    let h : AreNeeded lines marks 0 = subst (λ m. AreNeeded lines m 0) (sym c.deref.ensures.value) c.in_ok-marks.ensures in
    let found = sym c.in_ok-found.ensures in record {
      derived = λ terms m d. subst (AreDerived terms m) found (derived_left lines marks h terms m d);
      used = subst AreAllUsed found (used_left lines marks h);
      last = λ st e. subst (λ (z : List Line). EndIn z st) found (end_left lines marks h st e);
      once = λ once. subst StateOnce found (once_left lines marks once);
      some = subst (λ (z : List Line). AreSomeOf z lines) found (some_left lines marks);
    }
