use Rattle.std.proofs.Common.{◌≡◌, ◌⊎◌, true, ℕ, zero, suc, List, [], ◌∷◌, Contains, refl, ap, subst, sym, ◌∙◌, inl, inr, lit<, arith}
use Rattle.swreq_derive.specs.swreq_param.declared.ids.ProtoId.{ProtoId}
use Rattle.swreq_derive.specs.swreq_param.Terms.{Term, self}
use Rattle.swreq_derive.specs.swreq_param.Terms.Term.{Generic}
use Rattle.swreq_derive.specs.Derivation.{Derivable, Derives, TermRequirement, TermStatement, for_self}
use Rattle.swreq_derive.specs.Derivation.Derives.{generic, conf, same, layout, assoc_name, assoc_decl, assoc_bind, assoc_conf, assoc_same, assoc_layout, reflex, symm, trans, same_conf, same_layout, same_name, same_decl}
use Rattle.swreq_derive.specs.Derivation.Source.{Written}
use Rattle.swreq_derive.specs.Derivation.TermRequirement.{Conforms, IsAnyObject, Equals}
use Rattle.swreq_derive.specs.Derivation.TermStatement.{IsValid, Requires}
use Rattle.swreq_derive.specs.Inheritance.{IsWrittenFor, LeadsTo}
use Rattle.swreq_derive.specs.Inheritance.LeadsTo.{here, further}
use Rattle.swreq_derive.specs.Reduced.{IsReduced}
use Rattle.swreq_derive.specs.Worked.{by_rank, of_one, param, τ_0_0}
use Rattle.swreq_derive.proofs.ByInheritance.{by_inheritance, conformance_is_no_layout, conformance_is_no_same_type, subject_of}
use Rattle.swreq_derive.proofs.Guard.{sound}
use Rattle.swreq_derive.proofs.swreq_lemmas.Members.{each_member, no_member, only_member}
use Rattle.swreq_derive.proofs.NoConformance.{says}
use Rattle.swreq_derive.proofs.Substitution.{derives_members}
use Rattle.swreq_canonical.specs.Canonical.{IsCanonical}
use Rattle.swreq_canonical.specs.CanonicalOrder.{IsStrictlySorted, RequirementBefore}
use Rattle.swreq_canonical.specs.Generators.{AreEnough, FollowsFromEarlier, IsGeneratorList, Takes}
use Rattle.swreq_canonical.specs.Generators.Takes.{ended, taken}
use Rattle.swreq_canonical.specs.Minimised.{Leaves}
use Rattle.swreq_canonical.specs.Minimised.Leaves.{dropped, kept, nothing}
use Rattle.swreq_canonical.specs.Worked.{one, Base, Derived, inherited, inherited_requirements, inherited_f, inherited_g}
use Rattle.swreq_derive.proofs.FirstParam.{first_reduced}
use Rattle.swreq_canonical.proofs.Taking.{generator_list}
use Rattle.swreq_canonical.proofs.worked.conformance_by_inheritance.Goals as goal

-- ---- what is derivable from such lists

-- the one requirement of the protocols is [Self : Base], of Derived
required : (n : ℕ) (r : TermRequirement) → Contains (by_rank inherited_requirements n) r → r ≡ Conforms self Base
required zero r h = no_member r h
required (suc zero) r h = only_member (Conforms self Base) r h
required (suc (suc n)) r h = no_member r h

abbrev IsOne : ProtoId → Type 0
IsOne p = (p ≡ Base) ⊎ (p ≡ Derived)

abbrev Says : TermStatement → Type 0
Says (IsValid t) = t ≡ τ_0_0
Says (Requires (Conforms t p)) = (t ≡ τ_0_0) × IsOne p
Says (Requires (IsAnyObject t)) = ⊥
Says (Requires (Equals t u)) = (t ≡ τ_0_0) × (u ≡ τ_0_0)

protocol_of : {t u : Term} {p q : ProtoId} → Conforms t p ≡ Conforms u q → p ≡ q
protocol_of e = cc

-- both lists have such members
AreSuch : List TermRequirement → Type 0
AreSuch rs = (r : TermRequirement) → Contains rs r → (p : ProtoId) × (r ≡ Conforms τ_0_0 p) × IsOne p

say : {rs : List TermRequirement} {st : TermStatement} → Derives inherited true (Written one rs) st → AreSuch rs → Says st
unfolding AreSuch
say (generic {g = g} h) n = ap Generic (only_member (param 0) g h)
say (conf {t = t} {p = p} h v) n = let (q, e, i) = n (Conforms t p) h in (subject_of e, subst IsOne (sym (protocol_of e)) i)
say (same {t = t} {u = u} h v w) n = absurd (conformance_is_no_same_type (n (Equals t u) h).1)
say (layout {t = t} h v) n = absurd (conformance_is_no_layout (n (IsAnyObject t) h).1)
say (assoc_name e d) n = no_member _ d
say (assoc_decl e d) n = no_member _ d
say (assoc_bind e d) n = no_member _ d
say (assoc_conf {t = t} {u = u} {p = p} {q = q} e h v) n =
    let k = required p.rank (Conforms u q) h in
    (ap (for_self t) (subject_of k) ∙ (say e n).0, inl (protocol_of k))
say (assoc_same {u = u} {v = v} {p = p} e h x y) n = absurd (conformance_is_no_same_type (required p.rank (Equals u v) h))
say (assoc_layout {u = u} {p = p} e h v) n = absurd (conformance_is_no_layout (required p.rank (IsAnyObject u) h))
say (reflex e) n = (say e n, say e n)
say (symm e) n = let k = say e n in (k.1, k.0)
say (trans e h) n = ((say e n).0, (say h n).1)
say (same_conf e h) n = ((say h n).0, (say e n).1)
say (same_layout e h) n = say e n
say (same_name e h d) n = no_member _ d
say (same_decl e h d) n = no_member _ d

f_such : AreSuch inherited_f
unfolding AreSuch
f_such = each_member (λ r. (p : ProtoId) × (r ≡ Conforms τ_0_0 p) × IsOne p) inherited_f
    ((Base, refl, inl refl), ((Derived, refl, inr refl), tt))

g_such : AreSuch inherited_g
unfolding AreSuch
g_such = each_member (λ r. (p : ProtoId) × (r ≡ Conforms τ_0_0 p) × IsOne p) inherited_g ((Derived, refl, inr refl), tt)

-- nothing inherits Base but Derived, and Base inherits nothing
stays : {p : ProtoId} → LeadsTo inherited Base p → p ≡ Base
stays here = refl
stays (further {q = q} {r = r} e h) =
    no_member (Conforms self r) (subst (λ x. Contains (by_rank inherited_requirements x.rank) (Conforms self r)) (stays e) h)

-- [T : Derived] is not derivable from [T : Base]
not_derived : Derivable inherited (of_one (Conforms τ_0_0 Base ∷ [])) (Requires (Conforms τ_0_0 Derived)) → ⊥
not_derived e =
    let s = of_one (Conforms τ_0_0 Base ∷ []) in
    let w : IsWrittenFor inherited s τ_0_0 Derived =
    (by_inheritance inherited s τ_0_0 Derived (λ p r h. (Base, required p.rank r h))
    (λ r h. (param 0, Base, only_member (Conforms τ_0_0 Base) r h))).0
    (sound inherited s (Requires (Conforms τ_0_0 Derived)) e) in
    let k : w.0 ≡ Base = protocol_of (only_member (Conforms τ_0_0 Base) (Conforms τ_0_0 w.0) w.1) in
    apart (ap (λ (p : ProtoId). p.rank) (stays (subst (λ x. LeadsTo inherited x Derived) k w.2)))
  where
    apart : suc zero ≡ zero → ⊥
    apart i = omega arith

-- nor is [T : Base] from nothing
not_base : Derivable inherited (of_one []) (Requires (Conforms τ_0_0 Base)) → ⊥
not_base e = says (sound inherited (of_one []) (Requires (Conforms τ_0_0 Base)) e) (λ r h. no_member r h)

to_derived : Derivable inherited (of_one inherited_g) (Requires (Conforms τ_0_0 Derived))
to_derived = conf (0, lit< tt, refl) (λ _. generic (0, lit< tt, refl))

to_base : Derivable inherited (of_one inherited_g) (Requires (Conforms τ_0_0 Base))
to_base = assoc_conf {u = self} to_derived (0, lit< tt, refl) (λ _. generic refl)

-- ---- equivalence

g_derives : (r : TermRequirement) → Contains inherited_f r → Derivable inherited (of_one inherited_g) (Requires r)
g_derives = each_member (λ r. Derivable inherited (of_one inherited_g) (Requires r)) inherited_f (to_base, (to_derived, tt))

f_derives : (r : TermRequirement) → Contains inherited_g r → Derivable inherited (of_one inherited_f) (Requires r)
f_derives = each_member (λ r. Derivable inherited (of_one inherited_f) (Requires r)) inherited_g
    (conf (1, lit< tt, refl) (λ _. generic (0, lit< tt, refl)), tt)

pub returns-clause-equivalent : goal.returns-clause-equivalent
returns-clause-equivalent c st =
    (derives_members inherited one inherited_f inherited_g g_derives st, derives_members inherited one inherited_g inherited_f f_derives st)

-- ---- generators, of each of the two lists

first : (rs : List TermRequirement) → IsReduced inherited (of_one rs) τ_0_0
first rs = first_reduced inherited (of_one rs) (generic (0, lit< tt, refl))

listed : (p : ProtoId) → IsOne p → Contains inherited_f (Conforms τ_0_0 p)
listed p (inl e) = subst (λ x. Contains inherited_f (Conforms τ_0_0 x)) (sym e) (0, lit< tt, refl)
listed p (inr e) = subst (λ x. Contains inherited_f (Conforms τ_0_0 x)) (sym e) (1, lit< tt, refl)

covers : (rs : List TermRequirement) → AreSuch rs → (r : TermRequirement) → IsCanonical inherited (of_one rs) r
    → Contains inherited_f r ⊎ FollowsFromEarlier inherited one rs r
covers rs n (Conforms t p) c = let k = say c.0 n in inl (subst (λ x. Contains inherited_f (Conforms x p)) (sym k.0) (listed p k.1))
covers rs n (IsAnyObject t) c = absurd (say c.0 n)
covers rs n (Equals u v) c = absurd (c.1.1 (subst (λ x. IsReduced inherited (of_one rs) x) (sym (say c.0 n).1) (first rs)))

sorted : IsStrictlySorted inherited_f
sorted = (
  each_member (RequirementBefore (Conforms τ_0_0 Base)) inherited_g (inr (refl, lit< tt), tt),
  ((λ q h. no_member q h), tt),
)

enough : (rs : List TermRequirement) → AreSuch rs → Derivable inherited (of_one rs) (Requires (Conforms τ_0_0 Base))
    → Derivable inherited (of_one rs) (Requires (Conforms τ_0_0 Derived)) → AreEnough inherited one rs inherited_f
enough rs n b d = record {
  sorted = sorted;
  canonical = each_member (IsCanonical inherited (of_one rs)) inherited_f ((b, first rs), ((d, first rs), tt));
  covers = covers rs n;
}

takes : Takes inherited one [] inherited_f inherited_f
takes = taken not_base (taken not_derived ended)

g_generators : IsGeneratorList inherited one inherited_g inherited_f
g_generators = generator_list inherited one inherited_g inherited_f inherited_f (enough inherited_g g_such to_base to_derived) takes

f_generators : IsGeneratorList inherited one inherited_f inherited_f
f_generators =
    generator_list inherited one inherited_f inherited_f inherited_f
    (enough inherited_f f_such (conf (0, lit< tt, refl) (λ _. generic (0, lit< tt, refl)))
    (conf (1, lit< tt, refl) (λ _. generic (0, lit< tt, refl)))) takes

pub returns-clause-generators : goal.returns-clause-generators
returns-clause-generators c = g_generators

-- ---- minimised lists

leaves : Leaves inherited one [] inherited_f inherited_g
leaves = dropped (kept nothing not_derived) to_base

pub returns-clause-minimised : goal.returns-clause-minimised
returns-clause-minimised c = record { generators = inherited_f; are_generators = f_generators; leaves = leaves }

pub returns-clause-itself : goal.returns-clause-itself
returns-clause-itself c = record { generators = inherited_f; are_generators = g_generators; leaves = leaves }
