-- Facts that are stable: each follows from its truncation, which says only that there is a proof of it. So a type may carry the truncation,
-- and its users have the fact.
use Rattle.std.proofs.Common.{◌≡◌, ◌↔◌, ◌<◌, ℕ, zero, suc, Bool, true, false, List, [], ◌∷◌, Contains, subst, sym, inl, inr, get_or, refl, true≢false, arith}
use Rattle.std.proofs.Math.Decide.{dec_lt, ℕ_discrete}
use Rattle.std.specs.Prelude.{All, IsTrue}
use Rattle.swreq_lemmas.proofs.Members.{first_member, later_member, member_cases, no_member}
use mathlib.Core.Logic.{∥∥₁_elim}

abbrev pub Stable : Type 0 → Type 0
Stable A = ∥ A ∥₁ → A

pub truncated_map : {A B : Type 0} → (A → B) → ∥ A ∥₁ → ∥ B ∥₁
truncated_map f t = ∥∥₁_elim t squash₁ (λ a. ∣ f a ∣₁)

pub proposition_stable : {A : Type 0} → IsProp A → Stable A
proposition_stable one t = ∥∥₁_elim t one (λ a. a)

pub decided_stable : {A : Type 0} → Dec A → Stable A
decided_stable (yes a) t = a
decided_stable (no n) t = absurd (∥∥₁_elim t (λ x y. absurd x) n)

-- what is as good as a stable fact
pub alike_stable : {A B : Type 0} → (A → B) → (B → A) → Stable B → Stable A
alike_stable to from stable t = from (stable (truncated_map to t))

pub both_stable : {A B : Type 0} → Stable A → Stable B → Stable (A × B)
both_stable a b t = (a (truncated_map (λ h. h.0) t), b (truncated_map (λ h. h.1) t))

pub given_stable : {A : Type 0} (B : A → Type 0) → ((a : A) → Stable (B a)) → Stable ((a : A) → B a)
given_stable B stable t a = stable a (truncated_map (λ h. h a) t)

pub each_way_stable : {A B : Type 0} → Stable A → Stable B → Stable (A ↔ B)
each_way_stable a b t = ((λ x. b (truncated_map (λ h. h.0 x) t)), (λ y. a (truncated_map (λ h. h.1 y) t)))

pub all_stable : {X : Type 0} (P : X → Type 0) → ((x : X) → Stable (P x)) → (xs : List X) → Stable (All P xs)
all_stable P stable xs t k d l = stable (get_or xs k d) (truncated_map (λ h. h k d l) t)

-- ---- what is decided

pub true_stable : (b : Bool) → Stable (IsTrue b)
true_stable true t = refl
true_stable false t = absurd (∥∥₁_elim t (λ x y. absurd x) (λ e. true≢false (sym e)))

pub less_stable : (a b : ℕ) → Stable (a < b)
less_stable a b = decided_stable (dec_lt a b)

pub same_number_stable : (a b : ℕ) → Stable (a ≡ b)
same_number_stable a b = decided_stable (ℕ_discrete a b)

-- a number below n with a property
pub some_below_decided : (Q : ℕ → Type 0) → ((k : ℕ) → Dec (Q k)) → (n : ℕ) → Dec ((k : ℕ) × (k < n) × Q k)
some_below_decided Q d zero = no (λ h. let l = h.1 in omega arith)
some_below_decided Q d (suc n) = elim (d n) [
  | yes q ↦ yes (n, omega arith, q)
  | no none ↦ elim (some_below_decided Q d n) [
    | yes h ↦ yes (h.0, omega (arith, h.1), h.2)
    | no fewer ↦ no (λ h. elim (ℕ_discrete h.0 n) [
      | yes e ↦ none (subst Q e h.2)
      | no apart ↦ (let others : h.0 ≡ n → ⊥ = apart in fewer (h.0, omega (arith, h.1), h.2))
    ])
  ]
]

-- a member, where it is decided which elements equal it
pub member_decided : {X : Type 0} (x : X) → ((y : X) → Dec (y ≡ x)) → (xs : List X) → Dec (Contains xs x)
member_decided x d [] = no (no_member x)
member_decided x d (y ∷ xs) = elim (d y) [
  | yes e ↦ yes (subst (λ z. Contains (y ∷ xs) z) e (first_member y xs))
  | no apart ↦ elim (member_decided x d xs) [
    | yes c ↦ yes (later_member y x xs c)
    | no none ↦ no (λ h. elim (member_cases y x xs h) [ inl e ↦ apart (sym e) | inr c ↦ none c ])
  ]
]
