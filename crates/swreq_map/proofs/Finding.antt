-- The properties that are found, and that there are no others.
use Rattle.std.proofs.Common.{◌≡◌, ◌↔◌, inl, inr, ℕ, suc, ◌-◌, ◌<◌, ◌≤◌, ◌==◌, List, [], ◌∷◌, ◌++◌, length, length-append, length-drop, drop, take, sym, ◌∙◌, ap, subst, arith, Some, Contains}
use Rattle.std.specs.List.{slice_get, dedup}
use Rattle.std.specs.List.Sorted.{IsPermutation}
use Rattle.std.proofs.lemmas.List.Elements.{Contains-append_left, Contains-append_right, Contains-append_cases}
use Rattle.std.proofs.lemmas.List.Kept.{Contains-dedup_nat, Contains-from_dedup}
use Rattle.std.proofs.lemmas.List.Sorted.{Contains-permutation, IsPermutation-sym}
use Rattle.swreq_complete.specs.swreq_word.declared.symbols.Symbol.{Symbol}
use Rattle.swreq_complete.specs.swreq_word.declared.symbols.Symbol.TheVariants.{Proto}
use Rattle.swreq_complete.specs.swreq_word.Least.{IsLeast}
use Rattle.swreq_complete.specs.swreq_word.Relations.{Linked}
use Rattle.swreq_complete.proofs.swreq_word.SameSymbols.{same_protocols}
use Rattle.swreq_complete.proofs.swreq_lemmas.Elements.{get_contains, take_one}
use Rattle.swreq_complete.proofs.swreq_lemmas.Members.{only_member}
use Rattle.swreq_complete.specs.swreq_rule.declared.rules.Rule.{Rule}
use Rattle.swreq_complete.specs.swreq_rule.Search.{NoneLonger}
use Rattle.swreq_complete.specs.swreq_rule.Steps.{Step}
use Rattle.swreq_complete.specs.Complete.{IsComplete}
use Rattle.swreq_map.specs.Follows.{AreConforming, IsKept, IsMapOf, MapView}
use Rattle.swreq_map.specs.Properties.{IsProperty, Vanishes}
use Rattle.swreq_map.proofs.Ending.{ends_left_side}

-- ---- protocols that vanish after the word

module _ (rules : List Rule) (protocols : ℕ) (u symbols : List Symbol) (k : ℕ) (x : Symbol) (found : List ℕ)
    (here : slice_get symbols k ≡ Some x)
    (so_far : AreConforming rules protocols u (take k symbols) found) where
  more : take (suc k) symbols ≡ take k symbols ++ x ∷ []
  more = take_one symbols k x here

  -- the next symbol is one of them
  pub conforming_more : (p : ℕ) → x ≡ Proto p → p < protocols → Vanishes rules u (Proto p)
      → AreConforming rules protocols u (take (suc k) symbols) (found ++ p ∷ [])
  conforming_more p is below vanishes = subst (λ ys. AreConforming rules protocols u ys (found ++ p ∷ [])) (sym more) (λ q. (
    λ c. elim (Contains-append_cases found (p ∷ []) q c) [
      | inl i ↦ (let s = (so_far q).0 i in (Contains-append_left (take k symbols) (x ∷ []) (Proto q) s.0, s.1, s.2))
      | inr i ↦ (let e = only_member p q i in
          subst (λ r. Contains (take k symbols ++ x ∷ []) (Proto r) × (r < protocols) × Vanishes rules u (Proto r)) (sym e)
          (Contains-append_right (take k symbols) (x ∷ []) (Proto p) (0, omega arith, is), below, vanishes))
    ],
    λ s. elim (Contains-append_cases (take k symbols) (x ∷ []) (Proto q) s.0) [
      | inl i ↦ Contains-append_left found (p ∷ []) q ((so_far q).1 (i, s.1, s.2))
      | inr i ↦ Contains-append_right found (p ∷ []) q (0, omega arith, same_protocols (sym is ∙ sym (only_member x (Proto q) i)))
    ],
  ))

  -- the next symbol is not one of them
  pub conforming_same : ((p : ℕ) → x ≡ Proto p → p < protocols → Vanishes rules u x → ⊥)
      → AreConforming rules protocols u (take (suc k) symbols) found
  conforming_same none = subst (λ ys. AreConforming rules protocols u ys found) (sym more) (λ q. (
    λ c. (let s = (so_far q).0 c in (Contains-append_left (take k symbols) (x ∷ []) (Proto q) s.0, s.1, s.2)),
    λ s. elim (Contains-append_cases (take k symbols) (x ∷ []) (Proto q) s.0) [
      | inl i ↦ (so_far q).1 (i, s.1, s.2)
      | inr i ↦ (let e : x ≡ Proto q = sym (only_member x (Proto q) i) in
          absurd (none q e s.1 (subst (Vanishes rules u) (sym e) s.2)))
    ],
  ))

-- ---- what the map keeps is enough

module _ (rules : List Rule) (complete : IsComplete rules) (m : MapView) (map : IsMapOf rules m) (u : List Symbol)
    (least : IsLeast (Linked (Step rules)) u) where
  -- a property that vanishes after the word follows an ending of it that is no longer than the left sides
  pub vanishing_follows : (longest : ℕ) → NoneLonger rules longest → (x : Symbol) → IsProperty m.protocols x → Vanishes rules u x
      → (at : ℕ) × (length u - longest ≤ at) × (at ≤ length u) × IsKept m (drop at u) x
  vanishing_follows longest short x p v =
      let e = ends_left_side rules complete u least x v in
      let size = simp (length-append, length-drop) at (ap length e.5) in
      let most = short e.0 e.1 e.3 in
      (e.2, omega (arith, size, most, e.4), e.4, map e.1 (drop e.2 u) x (get_contains rules e.0 e.1 e.3) e.5 p)

  -- all protocols that vanish after the word are among the symbols that follow its endings
  pub all_conforming : (longest : ℕ) → NoneLonger rules longest → (symbols : List Symbol) (found : List ℕ)
      → ((at : ℕ) (x : Symbol) → length u - longest ≤ at → at ≤ length u → IsKept m (drop at u) x → Contains symbols x)
      → AreConforming rules m.protocols u symbols found
      → (p : ℕ) → Contains found p ↔ ((p < m.protocols) × Vanishes rules u (Proto p))
  all_conforming longest short symbols found followers are p = (
    λ c. (let s = (are p).0 c in (s.1, s.2)),
    λ s. (let f = vanishing_follows longest short (Proto p) s.0 s.1 in (are p).1 (followers f.0 (Proto p) f.1 f.2 f.3, s.0, s.1)),
  )

-- ---- ascending, each once

pub sorted_conforming : (rules : List Rule) (protocols : ℕ) (u symbols : List Symbol) (found sorted : List ℕ)
    → AreConforming rules protocols u symbols found → IsPermutation found sorted
    → AreConforming rules protocols u symbols (dedup ◌==◌ sorted)
sorted_conforming rules protocols u symbols found sorted are moved p = (
  λ c. (are p).0 (Contains-permutation sorted found p (IsPermutation-sym found sorted moved) (Contains-from_dedup ◌==◌ sorted p c)),
  λ s. Contains-dedup_nat sorted p (Contains-permutation found sorted p moved ((are p).1 s)),
)
