-- Reduced types are valid by canonical conformances of types with fewer members, and the sides of a canonical requirement by canonical
-- requirements that come before it.
use Rattle.std.proofs.Common.{ℕ, ◌<◌, ◌≤◌, [], List, inl, arith}
use Rattle.swreq_derive.specs.swreq_param.declared.ids.ParamId.{ParamId}
use Rattle.swreq_derive.specs.swreq_param.declared.ids.ProtoId.{ProtoId}
use Rattle.swreq_derive.specs.swreq_param.declared.ids.Step.TheVariants.{Bound, Name}
use Rattle.swreq_derive.specs.swreq_param.Order.{TermBefore}
use Rattle.swreq_derive.specs.swreq_param.Terms.{Term, member_count}
use Rattle.swreq_derive.specs.swreq_param.Terms.Term.{Generic, Member}
use Rattle.swreq_derive.specs.Derivation.{Derivable, Source, TermFacts, TermRequirement, TermStatement}
use Rattle.swreq_derive.specs.Derivation.Derives.{assoc_decl, generic, reflex}
use Rattle.swreq_derive.specs.Derivation.Source.{Written}
use Rattle.swreq_derive.specs.Derivation.TermRequirement.{Conforms, Equals, IsAnyObject}
use Rattle.swreq_derive.specs.Derivation.TermStatement.{IsValid, Requires}
use Rattle.swreq_derive.specs.Reduced.{IsReduced, IsReducedTypeOf}
use Rattle.swreq_derive.proofs.swreq_lemmas.Members.{no_member}
use Rattle.swreq_correspondence.proofs.Readings.{sides_of, valid_bound, valid_generic}
use Rattle.swreq_canonical.specs.Canonical.{IsCanonical, principal}
use Rattle.swreq_canonical.specs.Generators.{Follows}
use Rattle.swreq_canonical.proofs.Following.{HasFollowingSides, by_one, itself, wider}
use Rattle.swreq_canonical.proofs.ReducedLemmas.{base_reduced, not_unbound, reduced_valid, result_reduced}

module _ (f : TermFacts) (ps : List ParamId) (list : List TermRequirement) where
  abbrev L : Source
  L = Written ps list

  -- canonical, of a type with fewer than n members
  abbrev pub IsShorter : ℕ → TermRequirement → Type 0
  IsShorter n r = IsCanonical f L r × (member_count (principal r) < n)

  pub shorter_conformance : (n : ℕ) (t : Term) (p : ProtoId) → IsReduced f L t
      → Derivable f L (Requires (Conforms t p)) → member_count t < n
      → Follows f ps (IsShorter n) (IsValid t) → Follows f ps (IsShorter n) (Requires (Conforms t p))
  shorter_conformance n t p r c g v = itself f ps (IsShorter n) (Conforms t p) ((c, r), g) v

  pub valid_by_shorter : (n : ℕ) (t : Term) → IsReduced f L t → member_count t ≤ n → Follows f ps (IsShorter n) (IsValid t)
  valid_by_shorter n (Generic g) r h = ([], (λ x i. no_member x i), generic (valid_generic (reduced_valid r)))
  valid_by_shorter n (Member t (Name a)) r h = absurd (not_unbound t a r)
  valid_by_shorter n (Member t (Bound d)) r h =
      let (p, a, c, o) = valid_bound (reduced_valid r) in
      let b = base_reduced t d r in
      by_one f ps (IsShorter n) (shorter_conformance n t p b c (omega arith) (valid_by_shorter n t b (omega arith)))
      (λ rs e. assoc_decl e o)

  -- canonical, with a principal type before t
  abbrev pub IsOfEarlierType : Term → TermRequirement → Type 0
  IsOfEarlierType t r = IsCanonical f L r × TermBefore (principal r) t

  pub shorter_is_earlier : (t : Term) (n : ℕ) {st : TermStatement} → n ≤ member_count t → Follows f ps (IsShorter n) st
      → Follows f ps (IsOfEarlierType t) st
  shorter_is_earlier t n g h = wider f ps (IsShorter n) (IsOfEarlierType t) (λ r i. (i.0, inl (let x = i.1 in omega arith))) h

  reduced_by_earlier : (t r : Term) → IsReduced f L r → member_count r ≤ member_count t → Follows f ps (IsOfEarlierType t) (IsValid r)
  reduced_by_earlier t r h n = shorter_is_earlier t (member_count t) (omega arith) (valid_by_shorter (member_count t) r h n)

  -- a reduced type has no more members than what it is the reduced type of
  pub no_longer : (v u : Term) → IsReducedTypeOf f L v u → member_count u ≤ member_count v
  no_longer v u q =
      let s : member_count v < member_count u → ⊥ = λ b. q.least v (reflex (sides_of q.equal).0) (inl b) in
      omega arith

  pub sides_by_earlier : (r : TermRequirement) → IsCanonical f L r → HasFollowingSides f ps (IsOfEarlierType (principal r)) r
  sides_by_earlier (Conforms t p) (e, c) = reduced_by_earlier t t c (omega arith)
  sides_by_earlier (IsAnyObject t) (e, c) = reduced_by_earlier t t c (omega arith)
  sides_by_earlier (Equals u (Generic g)) (_, (o, x, q)) = (
    reduced_by_earlier (Generic g) u (result_reduced q) (no_longer (Generic g) u q),
    ([], (λ r h. no_member r h), generic (valid_generic (sides_of q.equal).0)),
  )
  sides_by_earlier (Equals u (Member t (Bound d))) (_, (b, x, q)) =
      let n : ℕ = member_count (Member t (Bound d)) in
      let (p, a, c, h) = valid_bound (sides_of q.equal).0 in (
        reduced_by_earlier (Member t (Bound d)) u (result_reduced q) (no_longer (Member t (Bound d)) u q),
        shorter_is_earlier (Member t (Bound d)) n (omega arith)
            (by_one f ps (IsShorter n) (shorter_conformance n t p b c (omega arith) (valid_by_shorter n t b (omega arith)))
            (λ rs e. assoc_decl e h)),
      )
  sides_by_earlier (Equals u (Member t (Name a))) (_, (b, x, q)) = absurd b
