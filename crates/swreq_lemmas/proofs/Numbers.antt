-- Numbers that are not equal.
use Rattle.std.proofs.Common.{◌≡◌, ◌⊎◌, ℕ, ◌+◌, ◌<◌, ◌≤◌, inl, inr, arith}
use Rattle.std.proofs.lemmas.Bool.{cases_eq}

pub below : (k m : ℕ) → k < m + 1 → (k ≡ m → ⊥) → k < m
below k m h n = omega arith

pub above : (k m : ℕ) → m ≤ k → (k ≡ m → ⊥) → m < k
above k m h n = omega arith

pub last_or_below : (k m : ℕ) → k < m + 1 → (k ≡ m) ⊎ (k < m)
last_or_below k m h = elim (cases_eq k m) [ inl e ↦ inl e | inr n ↦ inr (below k m h n) ]
