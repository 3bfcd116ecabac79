-- Well-founded relations.

-- Each that is below a is accessible. So nothing goes down from a for ever.
pub data IsAccessible {A : Type 0} (R : A → A → Type 0) : A → Type 0 where
  reached : {a : A} → ((b : A) → R b a → IsAccessible R b) → IsAccessible R a

abbrev pub IsWellFounded : {A : Type 0} (R : A → A → Type 0) → Type 0
IsWellFounded {A} R = (a : A) → IsAccessible R a
