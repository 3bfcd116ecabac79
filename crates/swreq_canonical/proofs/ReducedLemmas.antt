-- Reduced types: their bases are reduced, and the reduced type of a type parameter is reduced.
use Rattle.std.proofs.Common.{◌≡◌, ◌+◌, refl, ap, subst, sym, inl, inr, arith}
use Rattle.swreq_derive.specs.swreq_param.declared.ids.AssocId.{AssocId}
use Rattle.swreq_derive.specs.swreq_param.declared.ids.NameId.{NameId}
use Rattle.swreq_derive.specs.swreq_param.declared.ids.Step.{Step}
use Rattle.swreq_derive.specs.swreq_param.declared.ids.Step.TheVariants.{Bound, Name}
use Rattle.swreq_derive.specs.swreq_param.Order.{TermBefore}
use Rattle.swreq_derive.specs.swreq_param.Terms.{Term}
use Rattle.swreq_derive.specs.swreq_param.Terms.Term.{Member}
use Rattle.swreq_derive.proofs.swreq_param.TotalOrder.{total, strict}
use Rattle.swreq_derive.specs.Derivation.{TermFacts, Source, Derivable}
use Rattle.swreq_derive.specs.Derivation.TermStatement.{IsValid}
use Rattle.swreq_derive.specs.Derivation.Derives.{assoc_bind, reflex, symm, trans, same_conf, same_decl}
use Rattle.swreq_derive.specs.Reduced.{IsReducedTypeOf, IsReduced}
use Rattle.swreq_derive.proofs.ReducedTypes.{reduced_is_one}
use Rattle.swreq_correspondence.proofs.Readings.{sides_of, valid_bound, valid_name}

pub same_or_not : (t u : Term) → Dec (t ≡ u)
same_or_not t u = elim (total t u) [
  | inl h ↦ no (λ e. strict t (subst (λ x. TermBefore t x) (sym e) h))
  | inr (inl e) ↦ yes e
  | inr (inr h) ↦ no (λ e. strict u (subst (λ x. TermBefore u x) e h))
]

-- a member of a type parameter that comes before another comes before each member of that one
pub member_before : (t u : Term) (x y : Step) → TermBefore t u → TermBefore (Member t x) (Member u y)
member_before t u x y (inl h) = inl (omega arith)
member_before t u x y (inr h) = inr (ap (λ n. n + 1) h.0, inl h.1)

module _ {f : TermFacts} {s : Source} where
  pub reduced_valid : {t : Term} → IsReduced f s t → Derivable f s (IsValid t)
  reduced_valid r = (sides_of r.equal).0

  pub result_reduced : {t r : Term} → IsReducedTypeOf f s t r → IsReduced f s r
  result_reduced q = record { equal = reflex (sides_of q.equal).1; least = λ u h b. q.least u (trans q.equal h) b }

  -- a type parameter whose reduced type is another one is not reduced
  pub not_reduced : {t r : Term} → IsReducedTypeOf f s t r → (t ≡ r → ⊥) → IsReduced f s t → ⊥
  not_reduced {t = t} {r = r} q n h = n (reduced_is_one f s t t r h q)

  pub not_itself : {t r : Term} → IsReducedTypeOf f s t r → (IsReduced f s t → ⊥) → t ≡ r → ⊥
  not_itself q n e = n (subst (IsReduced f s) (sym e) (result_reduced q))

  -- no unbound member is reduced: a bound one comes before it
  pub not_unbound : (t : Term) (a : NameId) → IsReduced f s (Member t (Name a)) → ⊥
  not_unbound t a r =
      let (p, d, c, h) = valid_name (reduced_valid r) in
      r.least (Member t (Bound d)) (symm (assoc_bind c h)) (inr (refl, inr (refl, tt)))

  pub base_reduced : (t : Term) (d : AssocId) → IsReduced f s (Member t (Bound d)) → IsReduced f s t
  base_reduced t d r =
      let (p, a, c, h) = valid_bound (reduced_valid r) in
      record {
        equal = reflex (sides_of c);
        least = λ u e b. r.least (Member u (Bound d)) (same_decl (same_conf c (symm e)) e h) (member_before u t (Bound d) (Bound d) b);
      }
