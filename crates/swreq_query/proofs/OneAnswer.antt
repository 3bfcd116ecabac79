-- What is asked has at most one answer, whatever is derivable.
use Rattle.std.proofs.Common.{◌≡◌, refl, sym, ◌∙◌, subst, ap, inl, inr, Option, Some, None}
use Rattle.std.proofs.lemmas.Option.{none-some, same_Some}
use Rattle.swreq_print.specs.swreq_param.Terms.{Term, self}
use Rattle.swreq_print.proofs.swreq_param.TotalOrder.{total}
use Rattle.swreq_print.specs.swreq_derive.Derivation.{TermRequirement, TermStatement}
use Rattle.swreq_print.specs.swreq_derive.Derivation.TermStatement.{IsValid, Requires}
use Rattle.swreq_print.specs.Names.{Text}
use Rattle.swreq_print.specs.swreq_lexicon.Views.{LexiconView}
use Rattle.swreq_print.specs.swreq_lowering.Queries.{TermAsks}
use Rattle.swreq_print.specs.swreq_lowering.Queries.TermAsks.{AsksSignature, AsksReduced, AsksRequirement}
use Rattle.swreq_query.specs.Answers.{Answer, IsAnswer, IsAnswerLine, IsLeastEqual, answer_line}
use Rattle.swreq_query.specs.Answers.Answer.{Invalid, Yes, No, Reduced}
use Rattle.swreq_query.specs.Asked.{IsVerdictOf, answer_of}
use Rattle.swreq_query.specs.declared.verdict.Verdict.{Verdict}
use Rattle.swreq_query.specs.declared.verdict.Verdict.TheVariants as verdicts

-- the type or the requirement that is asked, or one of no meaning
type_of : TermAsks → Term
type_of AsksSignature = self
type_of (AsksReduced t) = t
type_of (AsksRequirement r) = self

requirement_in : TermAsks → Option TermRequirement
requirement_in AsksSignature = None
requirement_in (AsksReduced t) = None
requirement_in (AsksRequirement r) = Some r

one_requirement : (q : TermAsks) (r p : TermRequirement) → q ≡ AsksRequirement r → q ≡ AsksRequirement p → r ≡ p
unfolding requirement_in
one_requirement q r p h k = same_Some r p (ap requirement_in (sym h ∙ k))

-- who asks a type asks no requirement
no_requirement : (q : TermAsks) (r : TermRequirement) (t : Term) → q ≡ AsksRequirement r → q ≡ AsksReduced t → ⊥
unfolding requirement_in
no_requirement q r t h k = none-some r (ap requirement_in (sym k ∙ h))

same_verdict : (v u : Verdict) → answer_of v ≡ answer_of u → v ≡ u
same_verdict verdicts.Invalid verdicts.Invalid e = refl
same_verdict verdicts.Yes verdicts.Yes e = refl
same_verdict verdicts.No verdicts.No e = refl
same_verdict _ _ e = absurd (cc)

module _ (derivable : TermStatement → Type 0) where
  one_least : (t u v : Term) → IsLeastEqual derivable t u → IsLeastEqual derivable t v → u ≡ v
  one_least t u v h k = elim (total u v) [
    | inl b ↦ absurd (k.1 u h.0 b)
    | inr c ↦ elim c [ inl e ↦ e | inr b ↦ absurd (h.1 v k.0 b) ]
  ]

  one_type : (q : TermAsks) (t s u v : Term) → q ≡ AsksReduced t → q ≡ AsksReduced s
      → IsLeastEqual derivable t u → IsLeastEqual derivable s v → u ≡ v
  unfolding type_of
  one_type q t s u v h k l m = one_least t u v l (subst (λ z. IsLeastEqual derivable z v) (ap type_of (sym k ∙ h)) m)

  pub one_answer : (q : TermAsks) (a b : Answer) → IsAnswer derivable q a → IsAnswer derivable q b → a ≡ b
  one_answer q Invalid Invalid h k = refl
  one_answer q Invalid Yes h k = absurd (h.2 (k.0 h.0 h.1))
  one_answer q Invalid No h k = absurd (h.2 (k.0 h.0 h.1))
  one_answer q Invalid (Reduced v) h k = absurd (h.2 (k.0 h.0 h.1))
  one_answer q Yes Invalid h k = absurd (k.2 (h.0 k.0 k.1))
  one_answer q Yes Yes h k = refl
  one_answer q Yes No h k = absurd (k.1.2 (subst (λ r. derivable (Requires r)) (one_requirement q h.1.0 k.1.0 h.1.1 k.1.1) h.1.2))
  one_answer q Yes (Reduced v) h k = absurd (no_requirement q h.1.0 k.1.0 h.1.1 k.1.1)
  one_answer q No Invalid h k = absurd (k.2 (h.0 k.0 k.1))
  one_answer q No Yes h k = absurd (h.1.2 (subst (λ r. derivable (Requires r)) (one_requirement q k.1.0 h.1.0 k.1.1 h.1.1) k.1.2))
  one_answer q No No h k = refl
  one_answer q No (Reduced v) h k = absurd (no_requirement q h.1.0 k.1.0 h.1.1 k.1.1)
  one_answer q (Reduced u) Invalid h k = absurd (k.2 (h.0 k.0 k.1))
  one_answer q (Reduced u) Yes h k = absurd (no_requirement q k.1.0 h.1.0 k.1.1 h.1.1)
  one_answer q (Reduced u) No h k = absurd (no_requirement q k.1.0 h.1.0 k.1.1 h.1.1)
  one_answer q (Reduced u) (Reduced v) h k = ap Reduced (one_type q h.1.0 k.1.0 u v h.1.1 k.1.1 h.1.2 k.1.2)

  pub one_line : (x : LexiconView) (q : TermAsks) (l m : Text) → IsAnswerLine x derivable q l → IsAnswerLine x derivable q m → l ≡ m
  one_line x q l m h k = h.2 ∙ (ap (answer_line x) (one_answer q h.0 k.0 h.1 k.1) ∙ sym k.2)

  -- the verdict on what is asked is the only one
  pub only_verdict : (q : TermAsks) (v : Verdict) → IsAnswer derivable q (answer_of v) → IsVerdictOf derivable q (Some v)
  only_verdict q v is u = (
    λ has. ap Some (same_verdict v u (one_answer q (answer_of v) (answer_of u) is has)),
    λ e. subst (λ (z : Verdict). IsAnswer derivable q (answer_of z)) (same_Some v u e) is,
  )

  -- where a valid type is asked there is none
  pub no_verdict : (t : Term) → derivable (IsValid t) → IsVerdictOf derivable (AsksReduced t) None
  no_verdict t valid v = (λ has. absurd (none v has), λ e. absurd (none-some v e))
    where
      none : (u : Verdict) → IsAnswer derivable (AsksReduced t) (answer_of u) → ⊥
      none verdicts.Invalid has = has.2 (subst (λ (s : Term). derivable (IsValid s)) (sym has.1) valid)
      none verdicts.Yes has = no_requirement (AsksReduced t) has.1.0 t has.1.1 refl
      none verdicts.No has = no_requirement (AsksReduced t) has.1.0 t has.1.1 refl
