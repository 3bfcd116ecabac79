-- A symbol that vanishes after an irreducible word ends a left side, and before it stands an ending of the word.
use Rattle.std.proofs.Common.{◌≡◌, inl, inr, ℕ, suc, ◌-◌, ◌≤◌, Bool, List, [], ◌∷◌, ◌++◌, append_assoc, append-nil, length, length-append, drop, refl, sym, ◌∙◌, ap, subst, arith, Some}
use Rattle.std.specs.List.{slice_get}
use Rattle.std.specs.Bool.{Decides}
use Rattle.std.proofs.lemmas.List.{nil_from_length}
use Rattle.swreq_complete.specs.swreq_word.declared.symbols.Symbol.{Symbol}
use Rattle.swreq_complete.specs.swreq_word.Relations.{Linked, IsIrreducible}
use Rattle.swreq_complete.proofs.swreq_word.Chains.{linked_on, linked_back}
use Rattle.swreq_complete.proofs.swreq_word.LeastWords.{one_least}
use Rattle.swreq_complete.proofs.swreq_word.Cuts.{cut, cut_rest}
use Rattle.swreq_complete.proofs.swreq_word.Cuts.Cut.{left, right}
use Rattle.swreq_complete.specs.swreq_rule.declared.rules.Rule.{Rule}
use Rattle.swreq_complete.specs.swreq_rule.Reduction.{NoneEarlier}
use Rattle.swreq_complete.specs.swreq_rule.Search.{NoneLonger}
use Rattle.swreq_complete.specs.swreq_rule.Steps.{Step}
use Rattle.swreq_complete.proofs.swreq_rule.Search.{reduction_step, a_step}
use Rattle.swreq_complete.proofs.swreq_pair.CriticalPairs.{locally}
use Rattle.swreq_complete.specs.Complete.{IsComplete}
use Rattle.swreq_complete.specs.swreq_word.Least.{IsLeast}
use Rattle.swreq_complete.proofs.ReducedSystem.{irreducible_least, least_irreducible}
use Rattle.swreq_complete.proofs.swreq_word.Comparing.{greater_some}
use Rattle.swreq_map.specs.Properties.{Vanishes}

module _ (rules : List Rule) where
  -- two least words of a class are one
  one_word : (u v : List Symbol) → Linked (Step rules) u v → IsLeast (Linked (Step rules)) u → IsLeast (Linked (Step rules)) v → u ≡ v
  one_word u v l a b = one_least (Linked (Step rules)) u v l (linked_back l) a b

  module _ (complete : IsComplete rules) (u : List Symbol) (least : IsLeast (Linked (Step rules)) u) where
    irreducible : IsIrreducible (Step rules) u
    irreducible = least_irreducible rules (locally rules complete.meet) u least

    -- what the reduced word tells
    pub vanishes_decided : (s : Symbol) (w end : List Symbol) (b : Bool) → w ≡ u ++ s ∷ [] → Linked (Step rules) w end
        → IsLeast (Linked (Step rules)) end
        → Decides b (end ≡ u) → Decides b (Vanishes rules u s)
    vanishes_decided s w end b e l m d = (
      (λ t. subst (λ x. Linked (Step rules) x u) e (subst (Linked (Step rules) w) (d.0 t) l)),
      (λ h. d.1 (one_word end u (linked_on (linked_back l) (subst (λ x. Linked (Step rules) x u) (sym e) h)) m least)),
    )

    -- a left side within the word
    not_within : (rule : Rule) (n : ℕ) → slice_get rules n ≡ Some rule → (before after : List Symbol)
        → u ≡ before ++ (rule.left ++ after) → ⊥
    not_within rule n is before after e =
        irreducible (before ++ (rule.right ++ after)) (record {
          rule = rule;
          number = suc n;
          is_rule = (n, refl, is);
          at = record { before = before; after = after; source = e; target = refl };
        })

    -- a left side that ends the word with one symbol more
    at_end : (s : Symbol) (rule : Rule) (n : ℕ) → slice_get rules n ≡ Some rule → (before : List Symbol) → u ++ s ∷ [] ≡ before ++ rule.left
        → (at : ℕ) × (at ≤ length u) × (rule.left ≡ drop at u ++ s ∷ [])
    at_end s rule n is before e =
        let some = greater_some rule.right rule.left rule.down in
        elim (cut u (s ∷ []) before rule.left e) [
          | left q f g ↦ (let size = simp length-append at (ap length g) in
              let none : q ≡ [] = nil_from_length q (omega (arith, size, some)) in (
                length u,
                omega arith,
                sym (subst (λ x. s ∷ [] ≡ x ++ rule.left) none g) ∙ sym (ap (λ x. x ++ s ∷ []) (cut_rest u u [] (sym (append-nil u)))),
              ))
          | right y q f g ↦ (
            length before,
            (let size = simp length-append at (ap length f) in omega (arith, size)),
            g ∙ ap (λ x. x ++ s ∷ []) (sym (cut_rest u before (y ∷ q) f)),
          )
        ]

    -- one that ends before the word with one symbol more does
    not_before : (s : Symbol) (rule : Rule) (n : ℕ) → slice_get rules n ≡ Some rule → (before after : List Symbol) (x : Symbol)
        → u ++ s ∷ [] ≡ before ++ (rule.left ++ (x ∷ after)) → ⊥
    not_before s rule n is before a x e =
        let f : u ++ s ∷ [] ≡ (before ++ rule.left) ++ (x ∷ a) = e ∙ sym (append_assoc before rule.left (x ∷ a)) in
        elim (cut u (s ∷ []) (before ++ rule.left) (x ∷ a) f) [
          | left q g h ↦ (let size = simp length-append at (ap length h) in
              not_within rule n is before []
              (shorter u (before ++ rule.left) q g (omega (arith, size)) ∙ ap (λ y. before ++ y) (sym (append-nil rule.left))))
          | right y q g h ↦ not_within rule n is before (y ∷ q) (g ∙ append_assoc before rule.left (y ∷ q))
        ]
      where
        shorter : (a b q : List Symbol) → b ≡ a ++ q → length q ≡ 0 → a ≡ b
        shorter a b [] g h = sym (append-nil a) ∙ sym g
        shorter a b (x ∷ q) g h = absurd (omega (arith, h))

    in_word : (s : Symbol) (rule : Rule) (n : ℕ) → slice_get rules n ≡ Some rule → (before after : List Symbol)
        → u ++ s ∷ [] ≡ before ++ (rule.left ++ after)
        → (at : ℕ) × (at ≤ length u) × (rule.left ≡ drop at u ++ s ∷ [])
    in_word s rule n is before [] e = at_end s rule n is before (e ∙ ap (λ x. before ++ x) (append-nil rule.left))
    in_word s rule n is before (x ∷ a) e = absurd (not_before s rule n is before a x e)

    -- no left side begins farther from the end of the word with one symbol more than the longest one reaches
    none_far : (s : Symbol) (longest : ℕ) → NoneLonger rules longest → NoneEarlier rules (u ++ s ∷ []) (length (u ++ s ∷ []) - longest)
    none_far s longest short before rest e l n rule is (after, b) = none after (e ∙ ap (λ x. before ++ x) b)
      where
        none : (after : List Symbol) → u ++ s ∷ [] ≡ before ++ (rule.left ++ after) → ⊥
        none [] f =
            let size = simp length-append at (ap length f) in
            let k = short n rule is in
            let m = simp length-append at l in
            omega (arith, size, k, m)
        none (x ∷ a) f = not_before s rule n is before a x f

    pub none_before : (s : Symbol) (w : List Symbol) (longest from : ℕ) → w ≡ u ++ s ∷ [] → from ≡ length w - longest
        → NoneLonger rules longest
        → NoneEarlier rules w from
    none_before s w longest from e f short =
        subst (NoneEarlier rules w) (sym f) (subst (λ z. NoneEarlier rules z (length z - longest)) (sym e) (none_far s longest short))

    pub ends_left_side : (s : Symbol) → Vanishes rules u s
        → (n : ℕ) × (rule : Rule) × (at : ℕ) × (slice_get rules n ≡ Some rule) × (at ≤ length u) × (rule.left ≡ drop at u ++ s ∷ [])
    ends_left_side s h = elim (reduction_step rules (u ++ s ∷ [])) [
      | inl r ↦ (let t = a_step rules (u ++ s ∷ []) r.0 r.1 in
          let n = t.is_rule.0 in
          let is = t.is_rule.2 in
          let w = in_word s t.rule n is t.at.before t.at.after t.at.source in
          (n, t.rule, w.0, is, w.1, w.2))
      | inr i ↦ absurd (let e = one_word (u ++ s ∷ []) u h (irreducible_least rules (locally rules complete.meet) (u ++ s ∷ []) i) least in
          let size = simp length-append at (ap length e) in omega (arith, size))
    ]
