use Rattle.std.proofs.Common.{◌≡◌, ◌⊎◌, true, ℕ, zero, suc, List, [], ◌∷◌, Contains, refl, ap, ap₂, subst, sym, inl, inr, lit<, arith}
use Rattle.swreq_derive.specs.swreq_param.declared.ids.ParamId.{ParamId}
use Rattle.swreq_derive.specs.swreq_param.declared.ids.ProtoId.{ProtoId}
use Rattle.swreq_derive.specs.swreq_param.Terms.{Term, self}
use Rattle.swreq_derive.specs.swreq_param.Terms.Term.{Generic}
use Rattle.swreq_derive.specs.Derivation.{Derivable, Derives, TermRequirement, TermStatement, for_self}
use Rattle.swreq_derive.specs.Derivation.Derives.{generic, conf, same, layout, assoc_name, assoc_decl, assoc_bind, assoc_conf, assoc_same, assoc_layout, reflex, symm, trans, same_conf, same_layout, same_name, same_decl}
use Rattle.swreq_derive.specs.Derivation.Source.{Written}
use Rattle.swreq_derive.specs.Derivation.TermRequirement.{Conforms, IsAnyObject, Equals}
use Rattle.swreq_derive.specs.Derivation.TermStatement.{IsValid, Requires}
use Rattle.swreq_derive.specs.Reduced.{IsReduced, IsReducedTypeOf}
use Rattle.swreq_derive.specs.Worked.{by_rank, of_two, param, τ_0_0, τ_0_1, P, layouts, layouts_f, layouts_requirements}
use Rattle.swreq_derive.proofs.Guard.{sound}
use Rattle.swreq_derive.proofs.Lengths.{IsAlike, alike}
use Rattle.swreq_derive.proofs.Listed.{none_listed}
use Rattle.swreq_derive.proofs.swreq_lemmas.Members.{Each, each_member, member_cases, no_member, only_member}
use Rattle.swreq_derive.proofs.NoConformance.{IsBare, says}
use Rattle.swreq_derive.proofs.ReducedTypes.{reduced_is_one}
use Rattle.swreq_canonical.specs.Canonical.{IsCanonical}
use Rattle.swreq_canonical.specs.CanonicalOrder.{IsStrictlySorted, RequirementBefore}
use Rattle.swreq_canonical.specs.Generators.{AreEnough, FollowsFromEarlier, IsEarlier, IsGeneratorList, Takes}
use Rattle.swreq_canonical.specs.Generators.Takes.{ended, skipped, taken}
use Rattle.swreq_canonical.specs.Minimised.{Leaves}
use Rattle.swreq_canonical.specs.Minimised.Leaves.{kept, nothing}
use Rattle.swreq_canonical.specs.Worked.{two, layouts_canonical, layouts_minimised}
use Rattle.swreq_derive.proofs.FirstParam.{first_reduced, none_before}
use Rattle.swreq_canonical.proofs.Taking.{generator_list}
use Rattle.swreq_canonical.proofs.worked.equal_parameters.Goals as goal

conformance : Derivable layouts (of_two layouts_f) (Requires (Conforms τ_0_0 P))
conformance = conf (0, lit< tt, refl) (λ _. generic (0, lit< tt, refl))

equal : Derivable layouts (of_two layouts_f) (Requires (Equals τ_0_0 τ_0_1))
equal = symm (same (1, lit< tt, refl) (λ _. generic (1, lit< tt, refl)) (λ _. generic (0, lit< tt, refl)))

-- [T : AnyObject] from [T : P], over any list that has this
inherited : (rs : List TermRequirement) → Derivable layouts (Written two rs) (Requires (Conforms τ_0_0 P))
    → Derivable layouts (Written two rs) (Requires (IsAnyObject τ_0_0))
inherited rs e = assoc_layout {u = self} e (0, lit< tt, refl) (λ _. generic refl)

first : IsReduced layouts (of_two layouts_f) τ_0_0
first = first_reduced layouts (of_two layouts_f) (generic (0, lit< tt, refl))

second : IsReduced layouts (of_two layouts_f) τ_0_1 → ⊥
second h = h.least τ_0_0 (symm equal) (inr (refl, inr (refl, lit< tt)))

reduced : IsReducedTypeOf layouts (of_two layouts_f) τ_0_1 τ_0_0
reduced = record { equal = symm equal; least = λ u e b. none_before u b }

pub returns-clause-of_greater : goal.returns-clause-of_greater
returns-clause-of_greater c h = second h.1

pub returns-clause-greater_on_left : goal.returns-clause-greater_on_left
returns-clause-greater_on_left c h = h.1.1 first

pub returns-clause-to_itself : goal.returns-clause-to_itself
returns-clause-to_itself c h = h.1.1 first

-- no requirement comes before the conformance of T to the first protocol
none_earlier : (r : TermRequirement) → RequirementBefore r (Conforms τ_0_0 P) → ⊥
none_earlier (Conforms t p) (inl h) = none_before t h
none_earlier (Conforms t p) (inr h) = let i = h.1 in omega arith
none_earlier (IsAnyObject t) (inl h) = none_before t h
none_earlier (IsAnyObject t) (inr h) = h.1
none_earlier (Equals t u) (inl h) = none_before u h
none_earlier (Equals t u) (inr h) = h.1

no_list : FollowsFromEarlier layouts two layouts_f (Conforms τ_0_0 P) → ⊥
no_list (rs, k, e) = says (sound layouts (Written two rs) (Requires (Conforms τ_0_0 P)) e) (λ r h. absurd (none_earlier r (k r h).1))

pub returns-clause-generator : goal.returns-clause-generator
returns-clause-generator c = ((conformance, first), no_list)

earlier : (r : TermRequirement) → Contains (Conforms τ_0_0 P ∷ []) r → IsEarlier layouts (of_two layouts_f) (IsAnyObject τ_0_0) r
earlier = each_member (IsEarlier layouts (of_two layouts_f) (IsAnyObject τ_0_0)) (Conforms τ_0_0 P ∷ [])
    (((conformance, first), inr (refl, tt)), tt)

pub returns-clause-no_generator : goal.returns-clause-no_generator
returns-clause-no_generator c h =
    h.1 (Conforms τ_0_0 P ∷ [], earlier, inherited (Conforms τ_0_0 P ∷ []) (conf (0, lit< tt, refl) (λ _. generic (0, lit< tt, refl))))

-- ---- what is derivable

abbrev IsParam : Term → Type 0
IsParam t = (t ≡ τ_0_0) ⊎ (t ≡ τ_0_1)

abbrev Says : TermStatement → Type 0
Says (IsValid t) = IsParam t
Says (Requires (Conforms t p)) = IsParam t × (p ≡ P)
Says (Requires (IsAnyObject t)) = IsParam t
Says (Requires (Equals t u)) = IsParam t × IsParam u

-- the one requirement of the protocols is [Self : AnyObject], of P
required : (n : ℕ) (r : TermRequirement) → Contains (by_rank layouts_requirements n) r → r ≡ IsAnyObject self
required zero r h = only_member (IsAnyObject self) r h
required (suc n) r h = no_member r h

of_list : (r : TermRequirement) → Contains layouts_f r → Says (Requires r)
of_list = each_member (λ r. Says (Requires r)) layouts_f ((inl refl, refl), ((inr refl, inl refl), tt))

no_conformance : {t u : Term} {p : ProtoId} → Conforms t p ≡ IsAnyObject u → ⊥
no_conformance e = cc

no_same_type : {t u v : Term} → Equals t u ≡ IsAnyObject v → ⊥
no_same_type e = cc

subject_of : {t u : Term} → IsAnyObject t ≡ IsAnyObject u → t ≡ u
subject_of e = cc

say : {st : TermStatement} → Derives layouts true (of_two layouts_f) st → Says st
say (generic {g = g} h) = elim (member_cases (param 0) g (param 1 ∷ []) h) [
  | inl e ↦ inl (ap Generic e)
  | inr k ↦ inr (ap Generic (only_member (param 1) g k))
]
say (conf {t = t} {p = p} h v) = of_list (Conforms t p) h
say (same {t = t} {u = u} h v w) = of_list (Equals t u) h
say (layout {t = t} h v) = of_list (IsAnyObject t) h
say (assoc_name e d) = no_member _ d
say (assoc_decl e d) = no_member _ d
say (assoc_bind e d) = no_member _ d
say (assoc_conf {u = u} {p = p} {q = q} e h v) = absurd (no_conformance (required p.rank (Conforms u q) h))
say (assoc_same {u = u} {v = v} {p = p} e h x y) = absurd (no_same_type (required p.rank (Equals u v) h))
say (assoc_layout {t = t} {u = u} {p = p} e h v) =
    subst IsParam (sym (ap (for_self t) (subject_of (required p.rank (IsAnyObject u) h)))) (say e).0
say (reflex e) = (say e, say e)
say (symm e) = let k = say e in (k.1, k.0)
say (trans e h) = ((say e).0, (say h).1)
say (same_conf e h) = ((say h).0, (say e).1)
say (same_layout e h) = (say h).0
say (same_name e h d) = no_member _ d
say (same_decl e h d) = no_member _ d

-- ---- generators

is_first : (t : Term) → IsParam t → IsReduced layouts (of_two layouts_f) t → t ≡ τ_0_0
is_first t (inl e) r = e
is_first t (inr e) r = absurd (second (subst (IsReduced layouts (of_two layouts_f)) e r))

is_second : (t : Term) → IsParam t → (IsReduced layouts (of_two layouts_f) t → ⊥) → t ≡ τ_0_1
is_second t (inl e) n = absurd (n (subst (IsReduced layouts (of_two layouts_f)) (sym e) first))
is_second t (inr e) n = e

listed : (r q : TermRequirement) → q ≡ r → Contains layouts_canonical r → Contains layouts_canonical q
listed r q e h = subst (Contains layouts_canonical) (sym e) h

covers : (r : TermRequirement) → IsCanonical layouts (of_two layouts_f) r
    → Contains layouts_canonical r ⊎ FollowsFromEarlier layouts two layouts_f r
covers (Conforms t p) (d, c) =
    inl (listed (Conforms τ_0_0 P) (Conforms t p) (ap₂ Conforms (is_first t (say d).0 c) (say d).1) (0, lit< tt, refl))
covers (IsAnyObject t) (d, c) = inl (listed (IsAnyObject τ_0_0) (IsAnyObject t) (ap IsAnyObject (is_first t (say d) c)) (1, lit< tt, refl))
covers (Equals u v) (d, (o, n, q)) =
    let e : v ≡ τ_0_1 = is_second v (say d).1 n in
    let i : u ≡ τ_0_0 =
    reduced_is_one layouts (of_two layouts_f) τ_0_1 u τ_0_0 (subst (λ x. IsReducedTypeOf layouts (of_two layouts_f) x u) e q) reduced in
    inl (listed (Equals τ_0_0 τ_0_1) (Equals u v) (ap₂ Equals i e) (2, lit< tt, refl))

sorted : IsStrictlySorted layouts_canonical
sorted = (
  each_member (RequirementBefore (Conforms τ_0_0 P)) (IsAnyObject τ_0_0 ∷ Equals τ_0_0 τ_0_1 ∷ [])
      (inr (refl, tt), (inl (inr (refl, inr (refl, lit< tt))), tt)),
  (
    each_member (RequirementBefore (IsAnyObject τ_0_0)) (Equals τ_0_0 τ_0_1 ∷ []) (inl (inr (refl, inr (refl, lit< tt))), tt),
    ((λ q h. no_member q h), tt),
  ),
)

canonical : (r : TermRequirement) → Contains layouts_canonical r → IsCanonical layouts (of_two layouts_f) r
canonical = each_member (IsCanonical layouts (of_two layouts_f)) layouts_canonical
    ((conformance, first), ((inherited layouts_f conformance, first), ((equal, (tt, second, reduced)), tt)))

enough : AreEnough layouts two layouts_f layouts_canonical
enough = record { sorted = sorted; canonical = canonical; covers = covers }

-- a conformance alone derives no equality of T and U, and an equality no conformance
no_equality : Derivable layouts (of_two (Conforms τ_0_0 P ∷ [])) (Requires (Equals τ_0_0 τ_0_1)) → ⊥
no_equality e =
    let s = of_two (Conforms τ_0_0 P ∷ []) in
    let k : IsAlike τ_0_0 τ_0_1 = alike layouts s τ_0_0 τ_0_1
    (none_listed [] two layouts_requirements (Conforms τ_0_0 P ∷ []) ((refl, tt), tt) (refl, tt))
    (sound layouts s (Requires (Equals τ_0_0 τ_0_1)) e) in
    apart (ap (λ (g : ParamId). g.index) k.heads)
  where
    apart : zero ≡ suc zero → ⊥
    apart i = omega arith

from_bare : (rs : List TermRequirement) → Each IsBare rs → Derivable layouts (of_two rs) (Requires (Conforms τ_0_0 P)) → ⊥
from_bare rs bare e = says (sound layouts (of_two rs) (Requires (Conforms τ_0_0 P)) e) (each_member IsBare rs bare)

from_conformance : Derivable layouts (of_two (Conforms τ_0_0 P ∷ [])) (Requires (IsAnyObject τ_0_0))
from_conformance = inherited (Conforms τ_0_0 P ∷ []) (conf (0, lit< tt, refl) (λ _. generic (0, lit< tt, refl)))

takes : Takes layouts two [] layouts_canonical layouts_minimised
takes = taken (from_bare [] tt) (skipped from_conformance (taken no_equality ended))

generators : IsGeneratorList layouts two layouts_f layouts_minimised
generators = generator_list layouts two layouts_f layouts_canonical layouts_minimised enough takes

pub returns-clause-canonical : goal.returns-clause-canonical
returns-clause-canonical c = canonical

pub returns-clause-sorted : goal.returns-clause-sorted
returns-clause-sorted c = sorted

pub returns-clause-generators : goal.returns-clause-generators
returns-clause-generators c = generators

-- ---- neither is dropped

leaves : Leaves layouts two [] layouts_minimised layouts_minimised
leaves = kept (kept nothing no_equality) (from_bare (Equals τ_0_0 τ_0_1 ∷ []) ((refl, refl), tt))

pub returns-clause-minimised : goal.returns-clause-minimised
returns-clause-minimised c = record { generators = layouts_minimised; are_generators = generators; leaves = leaves }
