-- Complete rules decide what they link.
use Rattle.std.proofs.Common.{◌≡◌, ◌⊎◌, inl, inr, sym, subst, ℕ, zero, suc, ◌≤◌, arith, List}
use Rattle.swreq_map.specs.swreq_word.Order.{WordLess}
use Rattle.swreq_map.specs.swreq_word.Relations.Chain.{done, more}
use Rattle.swreq_map.proofs.swreq_word.Chains.{linked_back, linked_on}
use Rattle.swreq_map.proofs.swreq_word.Comparing.{trichotomy, not_below_itself}
use Rattle.swreq_map.specs.swreq_rule.declared.rules.Rule.{Rule}
use Rattle.swreq_map.specs.swreq_rule.Reduction.{Reduces}
use Rattle.swreq_map.proofs.swreq_rule.Remaining.{remaining, remaining_falls}
use Rattle.swreq_map.proofs.swreq_rule.Search.{reduction_step}
use Rattle.swreq_map.specs.swreq_complete.Complete.{IsComplete}
use Rattle.swreq_map.proofs.swreq_complete.Answering.{reduces_least}
use Rattle.swreq_valid.specs.swreq_correspondence.Symbols.{Word}
use Rattle.swreq_valid.specs.swreq_symbols.Vanishing.{IsLeastBy, Links}
use Rattle.swreq_valid.proofs.swreq_symbols.Walking.{one_least}

-- a word reduces to some word, in as many steps as are left
reduces_within : (rules : List Rule) (n : ℕ) (w : Word) → remaining rules w ≤ n → (u : Word) × Reduces rules w u
reduces_within rules zero w l = elim (reduction_step rules w) [
  | inl s ↦ (let falls = remaining_falls rules w s.0 s.1 in absurd (omega (arith, falls, l)))
  | inr i ↦ (w, record { steps = done; irreducible = i })
]
reduces_within rules (suc n) w l = elim (reduction_step rules w) [
  | inl s ↦ (let falls = remaining_falls rules w s.0 s.1 in
      let (u, r) = reduces_within rules n s.0 (omega (arith, falls, l)) in
      (u, record { steps = more s.1 r.steps; irreducible = r.irreducible }))
  | inr i ↦ (w, record { steps = done; irreducible = i })
]

module _ (rules : List Rule) (complete : IsComplete rules) where
  -- each word has a least one in its class
  pub least_of : (w : Word) → (u : Word) × Links rules w u × IsLeastBy rules u
  least_of w =
      let (u, r) = reduces_within rules (remaining rules w) w (omega arith) in
      let l = reduces_least rules complete w u r in
      (u, l.0, l.1)

  same_or_not : (u v : Word) → (u ≡ v) ⊎ (u ≡ v → ⊥)
  same_or_not u v = elim (trichotomy u v) [
    | inl l ↦ inr (λ e. not_below_itself v (subst (λ z. WordLess z v) e l))
    | inr k ↦ elim k [ inl e ↦ inl e | inr l ↦ inr (λ e. not_below_itself v (subst (λ z. WordLess v z) e l)) ]
  ]

  pub links_decide : (u v : Word) → Links rules u v ⊎ (Links rules u v → ⊥)
  links_decide u v =
      let (a, la, ma) = least_of u in
      let (b, lb, mb) = least_of v in
      elim (same_or_not a b) [
        | inl e ↦ inl (linked_on la (linked_back (subst (λ z. Links rules v z) (sym e) lb)))
        | inr n ↦ inr (λ l. n (one_least rules a b ma mb (linked_on (linked_back la) (linked_on l lb))))
      ]
