use Rattle.std.proofs.Common.{◌≡◌, ◌++◌, ◌∷◌, [], Some, map, slice_get, take, ◌∙◌, add-one, ap, refl, false, length, arith}
use Rattle.std.proofs.lemmas.{List.{map-append}, Option.{slice_get-get_or, slice_get_read}}
use Rattle.swreq_derivation.proofs.keeping.keep.Goals.{then-marks-k+in_ok-line+in_ok-push, else-marks-k}
use Rattle.swreq_derivation.proofs.keeping.keep.Goals as goal
use Rattle.swreq_derivation.{specs.Marks.{kept, renumbered}, proofs.KeptLines.{kept_no, kept_yes}}

pub loop-k-preserved : goal.loop-k-preserved
loop-k-preserved c =
    let marks = c.args.marks.now in
    let lines = c.args.lines.now in
    let k = c.loop-k.k in
    let count = c.requires in
    let test = c.loop-k-test.true in
    let there : slice_get marks k ≡ Some _ = slice_get-get_or marks k false (omega (arith, count, test)) in
    elim c.if-marks-k.branch [
      | then-marks-k+in_ok-line+in_ok-push w ↦
          (let line = w.index-lines-k.result in
          let is : slice_get lines k ≡ Some line = slice_get_read lines (length lines) k line refl test w.index-lines-k.is in
          let more = kept_yes marks lines k line (there ∙ ap Some w.if-marks-k.true) is in
          rw (add-one, more, map-append (renumbered marks) (kept (take k marks) (take k lines)) (line ∷ []))
          (ap (λ z. z.items) w.out-is ∙ w.in_ok-push.ensures.items ∙ ap (λ z. z ++ w.in_ok-line.line ∷ []) c.loop-k.invariant
          ∙ ap (λ z. map (renumbered marks) (kept (take k marks) (take k lines)) ++ z ∷ []) w.in_ok-line.ensures))
      | else-marks-k w ↦
          (let same = kept_no marks lines k (there ∙ ap Some w.if-marks-k.false) in
          rw (add-one, same) (ap (λ z. z.items) w.out-is ∙ c.loop-k.invariant))
    ]
