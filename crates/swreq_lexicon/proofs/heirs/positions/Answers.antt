use Rattle.std.proofs.Common.{◌≡◌, ◌∙◌, ◌<◌, ◌+◌, ℕ, Option, Some, Global, Vec, ap, get_or, length, set, subst, sym, arith}
use Rattle.std.proofs.lemmas.List.{length-set}
use Rattle.std.proofs.lemmas.Option.{slice_get-get_or}
use Rattle.swreq_lexicon.specs.Heirs.{ArePositions, HavePositions}
use Rattle.swreq_lexicon.specs.Views.{place_by}
use Rattle.swreq_lexicon.proofs.Upwards.{first, positions_more, all_more, all_past}
use Rattle.swreq_lexicon.proofs.heirs.positions.Goals as goal
use Rattle.swreq_lexicon.proofs.heirs.positions.Goals.{then-place-bound, else-place-bound}

pub loop-k-preserved : goal.loop-k-preserved
loop-k-preserved c =
    let order = c.args.order.now in
    let places = c.args.protocols.now.places in
    let xs = c.loop-k.positions.items in
    let k = c.loop-k.k in
    let q = get_or order k first in
    let at = slice_get-get_or order k first c.loop-k-test.true in
    let is : c.place-place.result ≡ place_by places q = c.place-place.ensures in
    let size = c.loop-k.invariant.size in
    elim c.if-place-bound.branch [
      | then-place-bound w ↦
          let there = w.if-place-bound.true in
          let below : place_by places q < length xs = omega (arith, there, is, size) in
          let now : c.if-place-bound.positions.items ≡ set xs (place_by places q) (Some k) =
          ap (λ (v : Vec (Option ℕ) Global). v.items) w.positions-is ∙ ap (λ n. set xs n (Some k)) is in
          record {
            size = ap length now ∙ length-set xs (place_by places q) (Some k) ∙ size;
            are = subst (ArePositions order places) (sym now) (positions_more order places xs k q at below c.loop-k.invariant.are);
            all = subst (λ new. HavePositions order places new (k + 1)) (sym now)
                (all_more order places xs k q at below c.loop-k.invariant.all);
          }
      | else-place-bound w ↦
          let there = w.if-place-bound.false in
          let now : c.if-place-bound.positions.items ≡ xs = ap (λ (v : Vec (Option ℕ) Global). v.items) w.positions-is in
          record {
            size = ap length now ∙ size;
            are = subst (ArePositions order places) (sym now) c.loop-k.invariant.are;
            all = subst (λ new. HavePositions order places new (k + 1)) (sym now)
                (all_past order places xs k q at (omega (arith, there, is, size)) c.loop-k.invariant.all);
          }
    ]
