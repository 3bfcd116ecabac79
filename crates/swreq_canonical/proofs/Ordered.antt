-- The order of canonical requirements.
use Rattle.std.proofs.Common.{◌≡◌, ◌⊎◌, ◌↔◌, ℕ, zero, suc, ◌<◌, List, [], ◌∷◌, Contains, refl, ap, ap₂, subst, sym, ◌∙◌, inl, inr, arith}
use Rattle.std.proofs.lemmas.Bool.{cases_order}
use Rattle.swreq_derive.specs.swreq_param.declared.ids.ProtoId.{ProtoId}
use Rattle.swreq_derive.specs.swreq_param.Order.{TermBefore}
use Rattle.swreq_derive.specs.swreq_param.Terms.{Term}
use Rattle.swreq_derive.proofs.swreq_param.Founded.{terms_founded}
use Rattle.swreq_derive.proofs.swreq_param.TotalOrder.{strict, total, transitive}
use Rattle.swreq_derive.specs.swreq_lemmas.WellFounded.{IsAccessible, IsWellFounded}
use Rattle.swreq_derive.specs.swreq_lemmas.WellFounded.IsAccessible.{reached}
use Rattle.swreq_derive.specs.Derivation.{Source, TermFacts, TermRequirement}
use Rattle.swreq_derive.specs.Derivation.TermRequirement.{Conforms, IsAnyObject, Equals}
use Rattle.swreq_derive.specs.Reduced.{IsReduced, IsReducedTypeOf}
use Rattle.swreq_derive.proofs.swreq_lemmas.Members.{first_member, later_member, member_cases, no_member}
use Rattle.swreq_derive.proofs.ReducedTypes.{reduced_is_one}
use Rattle.swreq_canonical.specs.Canonical.{IsCanonical, principal}
use Rattle.swreq_canonical.specs.CanonicalOrder.{KindBefore, RequirementBefore, IsStrictlySorted}

-- ---- strict and transitive

strict_kinds : (r : TermRequirement) → KindBefore r r → ⊥
strict_kinds (Conforms t p) h = omega arith
strict_kinds (IsAnyObject t) h = h
strict_kinds (Equals t u) h = h

pub strict_requirements : (r : TermRequirement) → RequirementBefore r r → ⊥
strict_requirements r (inl h) = strict (principal r) h
strict_requirements r (inr h) = strict_kinds r h.1

transitive_kinds : (r q s : TermRequirement) → KindBefore r q → KindBefore q s → KindBefore r s
transitive_kinds (Conforms t p) (Conforms u q) (Conforms v s) h k = omega arith
transitive_kinds (Conforms t p) (Conforms u q) (IsAnyObject v) h k = tt
transitive_kinds (Conforms t p) (Conforms u q) (Equals v w) h k = k
transitive_kinds (Conforms t p) (IsAnyObject u) s h k = absurd k
transitive_kinds (Conforms t p) (Equals u v) s h k = absurd h
transitive_kinds (IsAnyObject t) q s h k = absurd h
transitive_kinds (Equals t u) q s h k = absurd h

pub transitive_requirements : (r q s : TermRequirement) → RequirementBefore r q → RequirementBefore q s → RequirementBefore r s
transitive_requirements r q s (inl h) (inl k) = inl (transitive (principal r) (principal q) (principal s) h k)
transitive_requirements r q s (inl h) (inr k) = inl (subst (λ x. TermBefore (principal r) x) k.0 h)
transitive_requirements r q s (inr h) (inl k) = inl (subst (λ x. TermBefore x (principal s)) (sym h.0) k)
transitive_requirements r q s (inr h) (inr k) = inr (h.0 ∙ k.0, transitive_kinds r q s h.1 k.1)

-- ---- well-founded

-- requirements of one principal type, over those of the types before it
module _ (t : Term) (earlier : (r : TermRequirement) → TermBefore (principal r) t → IsAccessible RequirementBefore r) where
  conformances : (n : ℕ) (p : ProtoId) → p.rank < n → (u : Term) → u ≡ t → IsAccessible RequirementBefore (Conforms u p)
  conformances zero p h u e = absurd (omega arith)
  conformances (suc n) p h u e = reached (below (λ q w i l. conformances n q l w i))
    where
      below : ((q : ProtoId) (w : Term) → w ≡ t → q.rank < n → IsAccessible RequirementBefore (Conforms w q))
          → (r : TermRequirement) → RequirementBefore r (Conforms u p) → IsAccessible RequirementBefore r
      below inner r (inl q) = earlier r (subst (λ x. TermBefore (principal r) x) e q)
      below inner (Conforms w q) (inr k) = inner q w (k.0 ∙ e) (let x = k.1 in omega arith)
      below inner (IsAnyObject w) (inr k) = absurd k.1
      below inner (Equals w z) (inr k) = absurd k.1

  layouts : (u : Term) → u ≡ t → IsAccessible RequirementBefore (IsAnyObject u)
  layouts u e = reached below
    where
      below : (r : TermRequirement) → RequirementBefore r (IsAnyObject u) → IsAccessible RequirementBefore r
      below r (inl q) = earlier r (subst (λ x. TermBefore (principal r) x) e q)
      below (Conforms w q) (inr k) = conformances (suc q.rank) q (omega arith) w (k.0 ∙ e)
      below (IsAnyObject w) (inr k) = absurd k.1
      below (Equals w z) (inr k) = absurd k.1

  same_types : (u v : Term) → v ≡ t → IsAccessible RequirementBefore (Equals u v)
  same_types u v e = reached below
    where
      below : (r : TermRequirement) → RequirementBefore r (Equals u v) → IsAccessible RequirementBefore r
      below r (inl q) = earlier r (subst (λ x. TermBefore (principal r) x) e q)
      below (Conforms w q) (inr k) = absurd k.1
      below (IsAnyObject w) (inr k) = absurd k.1
      below (Equals w z) (inr k) = absurd k.1

  of_principal : (r : TermRequirement) → principal r ≡ t → IsAccessible RequirementBefore r
  of_principal (Conforms u p) e = conformances (suc p.rank) p (omega arith) u e
  of_principal (IsAnyObject u) e = layouts u e
  of_principal (Equals u v) e = same_types u v e

by_principal : {t : Term} → IsAccessible TermBefore t → (r : TermRequirement) → principal r ≡ t → IsAccessible RequirementBefore r
by_principal (reached {a = t} h) = of_principal t (λ r q. by_principal (h (principal r) q) r refl)

pub requirements_founded : IsWellFounded RequirementBefore
requirements_founded r = by_principal (terms_founded (principal r)) r refl

-- ---- total on canonical requirements

module _ (f : TermFacts) (s : Source) where
  abbrev AreOrdered : TermRequirement → TermRequirement → Type 0
  AreOrdered r q = RequirementBefore r q ⊎ ((r ≡ q) ⊎ RequirementBefore q r)

  -- a reduced type is the principal type of no same-type requirement
  not_both : (t u v : Term) → t ≡ v → IsReduced f s t → (IsReduced f s v → ⊥) → ⊥
  not_both t u v e r n = n (subst (λ x. IsReduced f s x) e r)

  pub alone : (u v : Term) (q : TermRequirement) → IsCanonical f s (Equals u v) → IsCanonical f s q → v ≡ principal q → Equals u v ≡ q
  alone u v (Conforms t p) c d e = absurd (not_both t u v (sym e) d.1 c.1.1)
  alone u v (IsAnyObject t) c d e = absurd (not_both t u v (sym e) d.1 c.1.1)
  alone u v (Equals w z) c d e = ap₂ Equals (reduced_is_one f s v u w c.1.2 (subst (λ x. IsReducedTypeOf f s x w) (sym e) d.1.2)) e

  same_principal : (r q : TermRequirement) → IsCanonical f s r → IsCanonical f s q → principal r ≡ principal q → AreOrdered r q
  same_principal (Conforms t p) (Conforms u q) c d e = elim (cases_order p.rank q.rank) [
    | inl i ↦ inr (inl (λ j. Conforms (e j) (record { rank = i j })))
    | inr (inl h) ↦ inl (inr (e, h))
    | inr (inr h) ↦ inr (inr (inr (sym e, h)))
  ]
  same_principal (Conforms t p) (IsAnyObject u) c d e = inl (inr (e, tt))
  same_principal (IsAnyObject t) (Conforms u p) c d e = inr (inr (inr (sym e, tt)))
  same_principal (IsAnyObject t) (IsAnyObject u) c d e = inr (inl (ap IsAnyObject e))
  same_principal (Conforms t p) (Equals u v) c d e = inr (inl (sym (alone u v (Conforms t p) d c (sym e))))
  same_principal (IsAnyObject t) (Equals u v) c d e = inr (inl (sym (alone u v (IsAnyObject t) d c (sym e))))
  same_principal (Equals u v) q c d e = inr (inl (alone u v q c d e))

  pub canonical_total : (r q : TermRequirement) → IsCanonical f s r → IsCanonical f s q → AreOrdered r q
  canonical_total r q c d = elim (total (principal r) (principal q)) [
    | inl h ↦ inl (inl h)
    | inr (inl e) ↦ same_principal r q c d e
    | inr (inr h) ↦ inr (inr (inl h))
  ]

-- ---- strictly sorted lists

-- with the same members they are one
pub one_list : (xs ys : List TermRequirement) → IsStrictlySorted xs → IsStrictlySorted ys
    → ((r : TermRequirement) → Contains xs r ↔ Contains ys r) → xs ≡ ys
one_list [] [] s o e = refl
one_list [] (y ∷ ys) s o e = no_member y ((e y).1 (first_member y ys))
one_list (x ∷ xs) [] s o e = no_member x ((e x).0 (first_member x xs))
one_list (x ∷ xs) (y ∷ ys) s o e = ap₂ ◌∷◌ heads (one_list xs ys s.1 o.1 (λ r. (there r, back r)))
  where
    heads : x ≡ y
    heads = elim (member_cases y x ys ((e x).0 (first_member x xs))) [
      | inl h ↦ h
      | inr h ↦ elim (member_cases x y xs ((e y).1 (first_member y ys))) [
        | inl k ↦ sym k
        | inr k ↦ absurd (strict_requirements x (transitive_requirements x y x (s.0 y k) (o.0 x h)))
      ]
    ]

    there : (r : TermRequirement) → Contains xs r → Contains ys r
    there r h = elim (member_cases y r ys ((e r).0 (later_member x r xs h))) [
      | inl k ↦ absurd (strict_requirements x (subst (λ z. RequirementBefore x z) (k ∙ sym heads) (s.0 r h)))
      | inr k ↦ k
    ]

    back : (r : TermRequirement) → Contains ys r → Contains xs r
    back r h = elim (member_cases x r xs ((e r).1 (later_member y r ys h))) [
      | inl k ↦ absurd (strict_requirements y (subst (λ z. RequirementBefore y z) (k ∙ heads) (o.0 r h)))
      | inr k ↦ k
    ]
