-- The answers where requirements are asked.
use Rattle.std.proofs.Common.{◌≡◌, refl, sym, subst, inl, inr, Bool, true, false, Option, Some, None}
use Rattle.std.proofs.lemmas.Bool.{iff_false}
use Rattle.swreq_print.specs.swreq_param.Terms.{Term}
use Rattle.swreq_print.specs.swreq_derive.Derivation.{TermStatement}
use Rattle.swreq_print.specs.swreq_derive.Derivation.TermRequirement.{Equals}
use Rattle.swreq_print.specs.swreq_derive.Derivation.TermStatement.{IsValid, Requires}
use Rattle.swreq_machine.specs.declared.having.Property.{Property}
use Rattle.swreq_machine.specs.declared.having.Property.TheVariants.{Protocol, Layout}
use Rattle.swreq_query.specs.Answers.{IsAnswered, IsSideOf}
use Rattle.swreq_query.specs.Answers.Answer.{Invalid, Yes, No}
use Rattle.swreq_query.specs.Asked.{answer_of, verdict_of}
use Rattle.swreq_machine.specs.Having.{TellsIfEqual, TellsIfHas, has}

is_side : (t : Term) (property : Property) → IsSideOf (has t property) t
is_side t (Protocol p) = refl
is_side t Layout = refl

only_side : (t : Term) (property : Property) (s : Term) → IsSideOf (has t property) s → s ≡ t
only_side t (Protocol p) s h = h
only_side t Layout s h = h

module _ (derivable : TermStatement → Type 0) where
  property_invalid : (t : Term) (property : Property) → (derivable (IsValid t) → ⊥)
      → IsAnswered derivable (has t property) Invalid
  property_invalid t property n = (t, is_side t property, n)

  valid_side : (t : Term) (property : Property) → derivable (IsValid t) → (s : Term) → IsSideOf (has t property) s
      → derivable (IsValid s)
  valid_side t property v s i = subst (λ z. derivable (IsValid z)) (sym (only_side t property s i)) v

  property_yes : (t : Term) (property : Property) → derivable (IsValid t) → derivable (Requires (has t property))
      → IsAnswered derivable (has t property) Yes
  property_yes t property v h = (valid_side t property v, (has t property, refl, h))

  property_no : (t : Term) (property : Property) → derivable (IsValid t) → (derivable (Requires (has t property)) → ⊥)
      → IsAnswered derivable (has t property) No
  property_no t property v n = (valid_side t property v, (has t property, refl, n))

  pub property_answer : (t : Term) (property : Property) (r : Option Bool) → TellsIfHas derivable t property r
      → IsAnswered derivable (has t property) (answer_of (verdict_of r))
  property_answer t property None h = property_invalid t property h
  property_answer t property (Some true) h = property_yes t property h.0 (h.1.0 refl)
  property_answer t property (Some false) h = property_no t property h.0 (iff_false h.1 refl)

  module _ (t u : Term) where
    left_invalid : (derivable (IsValid t) → ⊥) → IsAnswered derivable (Equals t u) Invalid
    left_invalid n = (t, inl refl, n)

    right_invalid : (derivable (IsValid u) → ⊥) → IsAnswered derivable (Equals t u) Invalid
    right_invalid n = (u, inr refl, n)

    valid_sides : derivable (IsValid t) → derivable (IsValid u) → (s : Term) → IsSideOf (Equals t u) s
        → derivable (IsValid s)
    valid_sides v w s (inl e) = subst (λ z. derivable (IsValid z)) (sym e) v
    valid_sides v w s (inr e) = subst (λ z. derivable (IsValid z)) (sym e) w

    equality_yes : derivable (IsValid t) → derivable (IsValid u) → derivable (Requires (Equals t u))
        → IsAnswered derivable (Equals t u) Yes
    equality_yes v w h = (valid_sides v w, (Equals t u, refl, h))

    equality_no : derivable (IsValid t) → derivable (IsValid u) → (derivable (Requires (Equals t u)) → ⊥)
        → IsAnswered derivable (Equals t u) No
    equality_no v w n = (valid_sides v w, (Equals t u, refl, n))

    pub equality_answer : (r : Option Bool) → TellsIfEqual derivable t u r
        → IsAnswered derivable (Equals t u) (answer_of (verdict_of r))
    equality_answer None (inl n) = left_invalid n
    equality_answer None (inr n) = right_invalid n
    equality_answer (Some true) (v, w, h) = equality_yes v w (h.0 refl)
    equality_answer (Some false) (v, w, h) = equality_no v w (iff_false h refl)
