-- Congruence goes on in longer words, so the factors of least words are least.
use Rattle.std.proofs.Common.{◌≡◌, ◌++◌, subst, sym, inl, inr}
use Rattle.swreq_canonical.specs.swreq_word.Least.{IsLeast}
use Rattle.swreq_canonical.specs.swreq_word.Order.{WordLess}
use Rattle.swreq_canonical.proofs.swreq_word.Comparing.{less_in_context, trichotomy}
use Rattle.swreq_canonical.specs.swreq_correspondence.Equations.{Linking}
use Rattle.swreq_canonical.specs.swreq_correspondence.Symbols.{Word}
use Rattle.swreq_canonical.proofs.swreq_correspondence.Context.{chain_after, chain_before}
use Rattle.swreq_canonical.proofs.swreq_correspondence.Orders.{none_less}

-- a word is least where no word of its class is less
pub least_by_none : (Class : Word → Word → Type 0) (u : Word) → ((v : Word) → Class u v → WordLess v u → ⊥) → IsLeast Class u
least_by_none Class u none v c = elim (trichotomy u v) [
  | inl l ↦ inr l
  | inr (inl e) ↦ inl (sym e)
  | inr (inr l) ↦ absurd (none v c l)
]

-- the factors of a least word are least
pub factor_least : (E : Word → Word → Type 0) (u before w after : Word) → IsLeast (Linking E) u
    → u ≡ before ++ (w ++ after) → IsLeast (Linking E) w
factor_least E u before w after l e = least_by_none (Linking E) w (λ v c h.
    none_less (Linking E) (before ++ (w ++ after)) (before ++ (v ++ after)) (subst (IsLeast (Linking E)) e l)
    (chain_before before (chain_after after c)) (less_in_context before v w after h))
