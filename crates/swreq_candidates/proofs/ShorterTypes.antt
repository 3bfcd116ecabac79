-- A type parameter equals its reduced type by canonical requirements of types with no more members.
use Rattle.std.proofs.Common.{◌<◌, ◌≤◌, ◌+◌, ℕ, List, [], subst, inl, inr, arith}
use Rattle.swreq_canonical.specs.swreq_param.declared.ids.AssocId.{AssocId}
use Rattle.swreq_canonical.specs.swreq_param.declared.ids.NameId.{NameId}
use Rattle.swreq_canonical.specs.swreq_param.declared.ids.ParamId.{ParamId}
use Rattle.swreq_canonical.specs.swreq_param.declared.ids.ProtoId.{ProtoId}
use Rattle.swreq_canonical.specs.swreq_param.declared.ids.Step.TheVariants.{Bound, Name}
use Rattle.swreq_canonical.specs.swreq_param.Terms.{Term, member_count}
use Rattle.swreq_canonical.specs.swreq_param.Terms.Term.{Generic, Member}
use Rattle.swreq_canonical.specs.swreq_derive.Derivation.{Declares, Derivable, Source, TermFacts, TermRequirement}
use Rattle.swreq_canonical.specs.swreq_derive.Derivation.Derives.{assoc_bind, assoc_decl, generic, reflex, same_conf, same_decl, same_name, symm, trans}
use Rattle.swreq_canonical.specs.swreq_derive.Derivation.Source.{Written}
use Rattle.swreq_canonical.specs.swreq_derive.Derivation.TermRequirement.{Conforms, Equals}
use Rattle.swreq_canonical.specs.swreq_derive.Derivation.TermStatement.{IsValid, Requires}
use Rattle.swreq_canonical.specs.swreq_derive.Reduced.{IsReduced, IsReducedTypeOf}
use Rattle.swreq_canonical.proofs.swreq_lemmas.Members.{no_member}
use Rattle.swreq_canonical.proofs.swreq_correspondence.Readings.{valid_base, valid_bound, valid_generic, valid_name}
use Rattle.swreq_canonical.specs.Canonical.{CanBePrincipal, HasReducedTypes, IsCanonical}
use Rattle.swreq_canonical.specs.Generators.{Follows}
use Rattle.swreq_canonical.proofs.Following.{by_one, by_two, itself, wider_sides}
use Rattle.swreq_canonical.proofs.ReducedLemmas.{not_reduced, result_reduced, same_or_not}
use Rattle.swreq_canonical.proofs.Sides.{IsOfEarlierType, IsShorter, no_longer, shorter_conformance, sides_by_earlier, valid_by_shorter}

module _ (f : TermFacts) (ps : List ParamId) (list : List TermRequirement) where
  abbrev L : Source
  L = Written ps list

  -- What can be a principal type equals its reduced type by requirements of a kind that has the canonical one which says so and those of
  -- earlier types.
  pub principal_follows : (S : TermRequirement → Type 0) (w r : Term) → ((q : TermRequirement) → IsOfEarlierType f ps list w q → S q)
      → (IsCanonical f L (Equals r w) → S (Equals r w)) → IsReducedTypeOf f L w r → CanBePrincipal f L w → Follows f ps S (IsValid w)
      → Follows f ps S (Requires (Equals w r))
  principal_follows S w r earlier own q o h = elim (same_or_not w r) [
    | yes i ↦ by_one f ps S h (λ rs e. subst (λ x. Derivable f (Written ps rs) (Requires (Equals w x))) i (reflex e))
    | no i ↦ (let c : IsCanonical f L (Equals r w) = (symm q.equal, (o, not_reduced q i, q)) in
        by_one f ps S (itself f ps S (Equals r w) (own c)
        (wider_sides f ps (IsOfEarlierType f ps list w) S (Equals r w) earlier (sides_by_earlier f ps list (Equals r w) c)))
        (λ rs e. symm e))
  ]

  earlier_is_shorter : (n : ℕ) (w : Term) → member_count w < n → (q : TermRequirement) → IsOfEarlierType f ps list w q
      → IsShorter f ps list n q
  earlier_is_shorter n w h q (c, inl b) = (c, omega arith)
  earlier_is_shorter n w h q (c, inr b) = (c, let e = b.0 in omega arith)

  module _ (reduce : HasReducedTypes f L) (n : ℕ) where
    abbrev S : TermRequirement → Type 0
    S = IsShorter f ps list n

    -- a type parameter and its reduced type
    abbrev pub Reduces : Term → Type 0
    Reduces t = (r : Term) × IsReducedTypeOf f L t r × Follows f ps S (Requires (Equals t r))

    principal_reduces : (w : Term) → Derivable f L (IsValid w) → member_count w < n → CanBePrincipal f L w
        → Follows f ps S (IsValid w) → Reduces w
    principal_reduces w v l o h =
        let (r, q) = reduce w v in (r, q, principal_follows S w r (earlier_is_shorter n w l) (λ c. (c, l)) q o h)

    -- the bound member of a reduced type
    bound_reduces : (r : Term) (p : ProtoId) (a : NameId) (d : AssocId) → Declares f p a d → member_count r + 1 < n
        → Derivable f L (Requires (Conforms r p)) → IsReduced f L r
        → Follows f ps S (Requires (Conforms r p)) × Reduces (Member r (Bound d))
    bound_reduces r p a d h l c b =
        let w = shorter_conformance f ps list n r p b c (omega arith) (valid_by_shorter f ps list n r b (omega arith)) in
        (w, principal_reduces (Member r (Bound d)) (assoc_decl c h) (omega arith) b (by_one f ps S w (λ rs e. assoc_decl e h)))

    equal_reduces : (t w : Term) → Derivable f L (Requires (Equals t w)) → Follows f ps S (Requires (Equals t w)) → Reduces w → Reduces t
    equal_reduces t w e g (z, o, h) =
        (z, record { equal = trans e o.equal; least = λ u x b. o.least u (trans (symm e) x) b }, by_two f ps S g h (λ rs i j. trans i j))

    pub shorter_reduces : (t : Term) → Derivable f L (IsValid t) → member_count t < n → Reduces t
    shorter_reduces (Generic g) v l = principal_reduces (Generic g) v l tt ([], (λ x h. absurd (no_member x h)), generic (valid_generic v))
    shorter_reduces (Member t (Bound d)) v l =
        let (p, a, c, h) = valid_bound v in
        let (r, q, g) = shorter_reduces t (valid_base (Bound d) v) (omega arith) in
        let o : member_count r ≤ member_count t = no_longer f ps list t r q in
        let e : Derivable f L (Requires (Conforms r p)) = same_conf c (symm q.equal) in
        let (w, b) = bound_reduces r p a d h (omega arith) e (result_reduced q) in
        equal_reduces (Member t (Bound d)) (Member r (Bound d)) (same_decl e q.equal h) (by_two f ps S w g (λ rs i j. same_decl i j h)) b
    shorter_reduces (Member t (Name a)) v l =
        let (p, d, c, h) = valid_name v in
        let (r, q, g) = shorter_reduces t (valid_base (Name a) v) (omega arith) in
        let o : member_count r ≤ member_count t = no_longer f ps list t r q in
        let e : Derivable f L (Requires (Conforms r p)) = same_conf c (symm q.equal) in
        let (w, b) = bound_reduces r p a d h (omega arith) e (result_reduced q) in
        equal_reduces (Member t (Name a)) (Member r (Bound d)) (trans (same_name e q.equal h) (symm (assoc_bind e h)))
        (by_two f ps S w g (λ rs i j. trans (same_name i j h) (symm (assoc_bind i h)))) b
