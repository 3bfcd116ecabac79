-- Nothing goes down from a type parameter for ever: by induction on the number of members, and for type parameters of one number on the
-- base and then on the last step.
use Rattle.std.proofs.Common.{◌≡◌, ℕ, ◌<◌, inl, inr, refl, sym, ◌∙◌, subst, arith}
use Rattle.swreq_lemmas.specs.WellFounded.{IsAccessible, IsWellFounded}
use Rattle.swreq_lemmas.specs.WellFounded.IsAccessible.{reached}
use Rattle.swreq_lemmas.proofs.Induction.{by_below, numbers_founded}
use Rattle.swreq_param.specs.declared.ids.ParamId.{ParamId}
use Rattle.swreq_param.specs.declared.ids.Step.{Step}
use Rattle.swreq_param.specs.declared.ids.Step.TheVariants.{Bound, Name}
use Rattle.swreq_param.specs.Terms.{Term, member_count}
use Rattle.swreq_param.specs.Terms.Term.{Generic, Member}
use Rattle.swreq_param.specs.Order.{ParamBefore, StepBefore, AlikeBefore, TermBefore}

params_founded : (d i : ℕ) → IsAccessible ParamBefore (record { depth = d; index = i })
params_founded d i =
    by_below (λ d. (i : ℕ) → IsAccessible ParamBefore (record { depth = d; index = i }))
    (λ d ihd i.
    by_below (λ i. IsAccessible ParamBefore (record { depth = d; index = i })) (λ i ihi. reached (below d ihd i ihi)) (numbers_founded i))
    (numbers_founded d) i
  where
    below : (d : ℕ) → ((e : ℕ) → e < d → (j : ℕ) → IsAccessible ParamBefore (record { depth = e; index = j })) → (i : ℕ)
        → ((j : ℕ) → j < i → IsAccessible ParamBefore (record { depth = d; index = j }))
        → (g : ParamId) → ParamBefore g (record { depth = d; index = i }) → IsAccessible ParamBefore g
    below d ihd i ihi g (inl h) = ihd g.depth h g.index
    below d ihd i ihi g (inr h) = subst (λ e. IsAccessible ParamBefore (record { depth = e; index = g.index })) (sym h.0) (ihi g.index h.1)

bound_founded : (n : ℕ) → IsAccessible StepBefore (Bound (record { rank = n }))
bound_founded n = by_below (λ n. IsAccessible StepBefore (Bound (record { rank = n }))) (λ n ih. reached (below n ih)) (numbers_founded n)
  where
    below : (n : ℕ) → ((m : ℕ) → m < n → IsAccessible StepBefore (Bound (record { rank = m }))) → (x : Step)
        → StepBefore x (Bound (record { rank = n })) → IsAccessible StepBefore x
    below n ih (Bound d) h = ih d.rank h
    below n ih (Name a) h = absurd h

name_founded : (n : ℕ) → IsAccessible StepBefore (Name (record { rank = n }))
name_founded n = by_below (λ n. IsAccessible StepBefore (Name (record { rank = n }))) (λ n ih. reached (below n ih)) (numbers_founded n)
  where
    below : (n : ℕ) → ((m : ℕ) → m < n → IsAccessible StepBefore (Name (record { rank = m }))) → (x : Step)
        → StepBefore x (Name (record { rank = n })) → IsAccessible StepBefore x
    below n ih (Bound d) h = bound_founded d.rank
    below n ih (Name a) h = ih a.rank h

steps_founded : (x : Step) → IsAccessible StepBefore x
steps_founded (Bound d) = bound_founded d.rank
steps_founded (Name a) = name_founded a.rank

-- type parameters of one number of members
abbrev Same< : Term → Term → Type 0
Same< t u = (member_count t ≡ member_count u) × AlikeBefore t u

below_generic : (g : ParamId) → ((h : ParamId) → ParamBefore h g → IsAccessible Same< (Generic h)) → (u : Term)
    → Same< u (Generic g) → IsAccessible Same< u
below_generic g ih (Generic h) l = ih h l.1
below_generic g ih (Member v y) l = absurd l.1

generic_founded : (g : ParamId) → IsAccessible Same< (Generic g)
generic_founded g = by_below (λ g. IsAccessible Same< (Generic g)) (λ g ih. reached (below_generic g ih)) (params_founded g.depth g.index)

below_member : (t : Term) (x : Step) → ((u : Term) → Same< u t → (y : Step) → IsAccessible Same< (Member u y))
    → ((y : Step) → StepBefore y x → IsAccessible Same< (Member t y))
    → (u : Term) → Same< u (Member t x) → IsAccessible Same< u
below_member t x iht ihx (Generic g) l = absurd l.1
below_member t x iht ihx (Member v y) (n, inl h) = iht v (omega (arith, n), h) y
below_member t x iht ihx (Member v y) (n, inr h) = subst (λ w. IsAccessible Same< (Member w y)) (sym h.0) (ihx y h.1)

same_founded : (t : Term) → IsAccessible Same< t
same_founded (Generic g) = generic_founded g
same_founded (Member t x) =
    by_below (λ t. (x : Step) → IsAccessible Same< (Member t x))
    (λ t iht x. by_below (λ x. IsAccessible Same< (Member t x)) (λ x ihx. reached (below_member t x iht ihx)) (steps_founded x))
    (same_founded t) x

of_count : (n : ℕ) → ((m : ℕ) → m < n → (u : Term) → member_count u ≡ m → IsAccessible TermBefore u) → (t : Term) → member_count t ≡ n
    → IsAccessible TermBefore t
of_count n ih t = by_below (λ t. member_count t ≡ n → IsAccessible TermBefore t) (λ t iht e. reached (below t iht e)) (same_founded t)
  where
    below : (t : Term) → ((u : Term) → Same< u t → member_count u ≡ n → IsAccessible TermBefore u) → member_count t ≡ n → (u : Term)
        → TermBefore u t → IsAccessible TermBefore u
    below t iht e u (inl h) = ih (member_count u) (omega (arith, h, e)) u refl
    below t iht e u (inr h) = iht u h (h.0 ∙ e)

-- nothing goes down from a type parameter for ever
pub terms_founded : IsWellFounded TermBefore
terms_founded t =
    by_below (λ n. (u : Term) → member_count u ≡ n → IsAccessible TermBefore u) of_count (numbers_founded (member_count t)) t refl
