-- Induction along an order in which nothing goes down for ever.
use Rattle.std.proofs.Common.{◌≡◌, ℕ, zero, suc, ◌+◌, ◌<◌, refl, subst, arith}
use Rattle.swreq_lemmas.specs.WellFounded.{IsAccessible, IsWellFounded}
use Rattle.swreq_lemmas.specs.WellFounded.IsAccessible.{reached}

-- what holds of each, where it holds of all below, holds of an accessible one
pub by_below : {A : Type 0} {R : A → A → Type 0} (P : A → Type 0) → ((a : A) → ((b : A) → R b a → P b) → P a) → {a : A}
    → IsAccessible R a → P a
by_below P step (reached {a = a} h) = step a (λ b r. by_below P step (h b r))

below_accessible : (n m : ℕ) → m < n → IsAccessible ◌<◌ m
below_accessible zero m h = absurd (omega arith)
below_accessible (suc k) m h = reached (λ y hy. below_accessible k y (omega arith))

pub numbers_founded : IsWellFounded ◌<◌
numbers_founded n = below_accessible (suc n) n (omega arith)

-- no sequence goes down for ever
pub no_descent : {A : Type 0} {R : A → A → Type 0} → IsWellFounded R → (s : ℕ → A) → ((n : ℕ) → R (s (n + 1)) (s n)) → ⊥
no_descent {A} {R} founded s down = by_below (λ a. (n : ℕ) → s n ≡ a → ⊥)
    (λ a ih n e. ih (s (n + 1)) (subst (R (s (n + 1))) e (down n)) (n + 1) refl)
    (founded (s 0)) 0 refl
