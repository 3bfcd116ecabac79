-- A place has one pair of sides at most.
use Rattle.std.proofs.Common.{◌≡◌, ℕ, ◌⊎◌, inl, inr, sym, ◌∙◌, ap, arith, List, ◌++◌}
use Rattle.std.proofs.lemmas.List.{append_cancel_left}
use Rattle.swreq_rule.specs.swreq_word.declared.symbols.Symbol.{Symbol}
use Rattle.swreq_rule.proofs.swreq_word.Cuts.{same_cut}
use Rattle.swreq_rule.specs.declared.rules.Rule.{Rule}
use Rattle.swreq_rule.specs.declared.rules.Place.{Place}
use Rattle.swreq_rule.proofs.Numbers.{one_rule}
use Rattle.swreq_rule.proofs.Overlapping.{overlap_within, containment_within}
use Rattle.swreq_pair.specs.Pairs.{IsPair, OverlapPair, ContainmentPair}

module _ (f s : Rule) (at : ℕ) (l r l' r' : List Symbol) where
  overlaps : OverlapPair f s at l r → OverlapPair f s at l' r' → (l ≡ l') × (r ≡ r')
  overlaps p q =
      let o = p.overlap in let m = q.overlap in
      let c = same_cut o.before o.common m.before m.common (sym o.first_is ∙ m.first_is) (o.at_is ∙ sym m.at_is) in
      let a : o.after ≡ m.after =
      append_cancel_left o.common o.after m.after (sym o.second_is ∙ m.second_is ∙ ap (λ x. x ++ m.after) (sym c.1)) in
      (p.left_is ∙ ap (λ x. f.right ++ x) a ∙ sym q.left_is, p.right_is ∙ ap (λ x. x ++ s.right) c.0 ∙ sym q.right_is)

  containments : ContainmentPair f s at l r → ContainmentPair f s at l' r' → (l ≡ l') × (r ≡ r')
  containments p q =
      let o = p.containment in let m = q.containment in
      let c = same_cut o.before (s.left ++ o.after) m.before (s.left ++ m.after) (sym o.first_is ∙ m.first_is) (o.at_is ∙ sym m.at_is) in
      let a = append_cancel_left s.left o.after m.after c.1 in (
        p.left_is ∙ sym q.left_is,
        p.right_is ∙ ap (λ x. x ++ (s.right ++ o.after)) c.0 ∙ ap (λ x. m.before ++ (s.right ++ x)) a ∙ sym q.right_is,
      )

  not_both_kinds : OverlapPair f s at l r → ContainmentPair f s at l' r' → ⊥
  not_both_kinds p q =
      let o = (overlap_within f.left s.left at p.overlap).2 in
      let m = containment_within f.left s.left at q.containment in
      omega (arith, o, m)

pub one_pair : (rules : List Rule) (place : Place) (l r l' r' : List Symbol) → IsPair rules place l r
    → IsPair rules place l' r' → (l ≡ l') × (r ≡ r')
one_pair rules place l r l' r' p q =
    let e = one_rule rules place.i p.first q.first p.first_at q.first_at in
    let h = one_rule rules place.j p.second q.second p.second_at q.second_at in
    let other : OverlapPair p.first p.second place.at l' r' ⊎ ContainmentPair p.first p.second place.at l' r' =
    rw (e, h) (elim q.kind [ inl o ↦ inl o | inr o ↦ inr o.1 ]) in
    elim p.kind [
      | inl o ↦ elim other [
        | inl k ↦ overlaps p.first p.second place.at l r l' r' o k
        | inr k ↦ absurd (not_both_kinds p.first p.second place.at l r l' r' o k)
      ]
      | inr o ↦ elim other [
        | inl k ↦ absurd (not_both_kinds p.first p.second place.at l' r' l r k o.1)
        | inr k ↦ containments p.first p.second place.at l r l' r' o.1 k
      ]
    ]
