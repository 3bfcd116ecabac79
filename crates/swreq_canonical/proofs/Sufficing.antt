-- What a list derives follows from its canonical requirements.
use Rattle.std.proofs.Common.{◌≡◌, List, [], subst, sym, inl, inr, arith}
use Rattle.swreq_derive.specs.swreq_param.declared.ids.AssocId.{AssocId}
use Rattle.swreq_derive.specs.swreq_param.declared.ids.NameId.{NameId}
use Rattle.swreq_derive.specs.swreq_param.declared.ids.ParamId.{ParamId}
use Rattle.swreq_derive.specs.swreq_param.declared.ids.ProtoId.{ProtoId}
use Rattle.swreq_derive.specs.swreq_param.declared.ids.Step.TheVariants.{Bound, Name}
use Rattle.swreq_derive.specs.swreq_param.Terms.{Term, member_count}
use Rattle.swreq_derive.specs.swreq_param.Terms.Term.{Generic, Member}
use Rattle.swreq_derive.proofs.swreq_param.TotalOrder.{total}
use Rattle.swreq_derive.specs.Derivation.{Declares, Derivable, Source, TermFacts, TermRequirement, TermStatement}
use Rattle.swreq_derive.specs.Derivation.Derives.{assoc_bind, assoc_decl, generic, reflex, same_conf, same_decl, same_layout, same_name, symm, trans}
use Rattle.swreq_derive.specs.Derivation.Source.{Written}
use Rattle.swreq_derive.specs.Derivation.TermRequirement.{Conforms, Equals, IsAnyObject}
use Rattle.swreq_derive.specs.Derivation.TermStatement.{IsValid, Requires}
use Rattle.swreq_derive.specs.Reduced.{IsReduced, IsReducedTypeOf}
use Rattle.swreq_derive.proofs.swreq_lemmas.Members.{no_member}
use Rattle.swreq_correspondence.proofs.Readings.{sides_of, valid_base, valid_bound, valid_generic, valid_name}
use Rattle.swreq_canonical.specs.Canonical.{CanBePrincipal, HasReducedTypes, IsCanonical}
use Rattle.swreq_canonical.specs.Generators.{Follows}
use Rattle.swreq_canonical.proofs.Following.{by_one, by_two, itself, wider}
use Rattle.swreq_canonical.proofs.ReducedLemmas.{not_reduced, result_reduced, same_or_not}
use Rattle.swreq_canonical.proofs.Sides.{IsShorter, valid_by_shorter}

module _ (f : TermFacts) (ps : List ParamId) (list : List TermRequirement) (reduce : HasReducedTypes f (Written ps list)) where
  abbrev L : Source
  L = Written ps list

  abbrev C : TermRequirement → Type 0
  C = IsCanonical f L

  abbrev Holds : TermStatement → Type 0
  Holds st = Follows f ps C st

  valid : (t : Term) → IsReduced f L t → Holds (IsValid t)
  valid t r =
      wider f ps (IsShorter f ps list (member_count t)) C (λ q h. h.0) (valid_by_shorter f ps list (member_count t) t r (omega arith))

  conformance : (t : Term) (p : ProtoId) → IsReduced f L t → Derivable f L (Requires (Conforms t p)) → Holds (Requires (Conforms t p))
  conformance t p r c = itself f ps C (Conforms t p) (c, r) (valid t r)

  layout : (t : Term) → IsReduced f L t → Derivable f L (Requires (IsAnyObject t)) → Holds (Requires (IsAnyObject t))
  layout t r c = itself f ps C (IsAnyObject t) (c, r) (valid t r)

  -- what can be a principal type equals its reduced type
  of_principal : (v r : Term) → IsReducedTypeOf f L v r → CanBePrincipal f L v → Holds (IsValid v) → Dec (v ≡ r)
      → Holds (Requires (Equals v r))
  of_principal v r q o h (yes e) = by_one f ps C h (λ rs d. subst (λ x. Derivable f (Written ps rs) (Requires (Equals v x))) e (reflex d))
  of_principal v r q o h (no n) =
      by_one f ps C (itself f ps C (Equals r v) (symm q.equal, (o, not_reduced q n, q)) (valid r (result_reduced q), h)) (λ rs d. symm d)

  -- a type parameter with a reduced type, to which it is equal by canonical requirements
  abbrev Reduces : Term → Type 0
  Reduces t = (r : Term) × IsReducedTypeOf f L t r × Holds (Requires (Equals t r))

  principal_reduces : (v : Term) → Derivable f L (IsValid v) → CanBePrincipal f L v → Holds (IsValid v) → Reduces v
  principal_reduces v e o h = let (r, q) = reduce v e in (r, q, of_principal v r q o h (same_or_not v r))

  -- what equals such a one
  equal_reduces : (t v : Term) → Derivable f L (Requires (Equals t v)) → Holds (Requires (Equals t v)) → Reduces v → Reduces t
  equal_reduces t v e h (r, q, k) =
      (r, record { equal = trans e q.equal; least = λ u x y. q.least u (trans (symm e) x) y }, by_two f ps C h k (λ rs d i. trans d i))

  -- the bound member of the base's reduced type, and the conformance by which it is valid
  bound_reduces : (t r : Term) (p : ProtoId) (a : NameId) (d : AssocId) → Declares f p a d → IsReducedTypeOf f L t r
      → Derivable f L (Requires (Conforms t p))
      → Reduces (Member r (Bound d)) × Holds (Requires (Conforms r p))
  bound_reduces t r p a d h q c =
      let b = result_reduced q in
      let e : Derivable f L (Requires (Conforms r p)) = same_conf c (symm q.equal) in
      let w = conformance r p b e in
      (principal_reduces (Member r (Bound d)) (assoc_decl e h) b (by_one f ps C w (λ rs i. assoc_decl i h)), w)

  reduces : (t : Term) → Derivable f L (IsValid t) → Reduces t
  reduces (Generic g) v = principal_reduces (Generic g) v tt ([], (λ r h. no_member r h), generic (valid_generic v))
  reduces (Member t (Bound d)) v =
      let (p, a, c, h) = valid_bound v in
      let (r, q, g) = reduces t (valid_base (Bound d) v) in
      let (o, w) = bound_reduces t r p a d h q c in
      equal_reduces (Member t (Bound d)) (Member r (Bound d)) (same_decl (same_conf c (symm q.equal)) q.equal h)
      (by_two f ps C w g (λ rs x y. same_decl x y h)) o
  reduces (Member t (Name a)) v =
      let (p, d, c, h) = valid_name v in
      let (r, q, g) = reduces t (valid_base (Name a) v) in
      let (o, w) = bound_reduces t r p a d h q c in
      equal_reduces (Member t (Name a)) (Member r (Bound d))
      (trans (same_name (same_conf c (symm q.equal)) q.equal h) (symm (assoc_bind (same_conf c (symm q.equal)) h)))
      (by_two f ps C w g (λ rs x y. trans (same_name x y h) (symm (assoc_bind x h)))) o

  pub suffice : (st : TermStatement) → Derivable f L st → Holds st
  suffice (IsValid t) e = by_one f ps C (reduces t e).2 (λ rs d. (sides_of d).0)
  suffice (Requires (Conforms t p)) e =
      let (r, q, g) = reduces t (sides_of e) in
      by_two f ps C (conformance r p (result_reduced q) (same_conf e (symm q.equal))) g (λ rs x y. same_conf x y)
  suffice (Requires (IsAnyObject t)) e =
      let (r, q, g) = reduces t (sides_of e) in
      by_two f ps C (layout r (result_reduced q) (same_layout e (symm q.equal))) g (λ rs x y. same_layout x y)
  suffice (Requires (Equals t u)) e =
      let (r, q, g) = reduces t (sides_of e).0 in
      let (z, o, w) = reduces u (sides_of e).1 in
      let i : r ≡ z = elim (total r z) [
        | inl b ↦ absurd (o.least r (trans (symm e) q.equal) b)
        | inr (inl h) ↦ h
        | inr (inr b) ↦ absurd (q.least z (trans e o.equal) b)
      ] in
      by_two f ps C g w (λ rs x y. trans x (symm (subst (λ c. Derivable f (Written ps rs) (Requires (Equals u c))) (sym i) y)))
