use Rattle.std.proofs.Common.{◌≡◌, ◌+◌, ◌≤◌, ◌∷◌, [], Some, slice_get, take, ◌∙◌, add-one, ap, subst, sym, arith, length, length-append}
use Rattle.std.proofs.{Common.{false}, lemmas.Option.{slice_get-get_or}}
use Rattle.swreq_derivation.proofs.keeping.numbers_of.Goals.{then-marks-k, else-marks-k}
use Rattle.swreq_derivation.proofs.keeping.numbers_of.Goals as goal
use Rattle.swreq_derivation.{specs.Marks.{marked, new_number}, proofs.KeptLines.{marked_no, marked_yes, numbers_grow}}

pub loop-k-preserved : goal.loop-k-preserved
loop-k-preserved c =
    let marks = c.args.marks.now in
    let k = c.loop-k.k in
    let count = c.if-marks-k.count in
    let there : slice_get marks k ≡ Some _ = slice_get-get_or marks k false c.loop-k-test.true in
    let so_far = c.loop-k.invariant.so_far in
    let small = c.loop-k.invariant.small in
    let long = c.loop-k.invariant.length_is in
    let now : count ≡ marked (take (k + 1) marks) = elim c.if-marks-k.branch [
      | then-marks-k w ↦
          (let h = marked_yes marks k (there ∙ ap Some w.if-marks-k.true) in let e = w.count-is in rw add-one (omega (arith, h, e, so_far)))
      | else-marks-k w ↦ (let h = marked_no marks k (there ∙ ap Some w.if-marks-k.false) in rw add-one (w.count-is ∙ so_far ∙ sym h))
    ] in
    let few : count ≤ k + 1 = elim c.if-marks-k.branch [
      | then-marks-k w ↦ (let e = w.count-is in omega (arith, e, small))
      | else-marks-k w ↦ (let e = w.count-is in omega (arith, e, small))
    ] in
    let items = c.in_ok-push-2.ensures.items in
    record {
      length_is = ap length items ∙ length-append c.loop-k.numbers.items (count ∷ []) ∙ omega (arith, long);
      so_far = now;
      small = few;
      each = λ n l. subst (λ z. slice_get z n ≡ Some (new_number marks n)) (sym items)
          (numbers_grow marks c.loop-k.numbers.items k count long c.loop-k.invariant.each now n l);
    }
