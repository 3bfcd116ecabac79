-- A requirement that the others derive can be left out.
use Rattle.std.proofs.Common.{◌≡◌, true, List, [], ◌∷◌, ◌++◌, Contains, sym, ap, subst, ◌∙◌, ◌⊎◌, inl, inr}
use Rattle.std.proofs.lemmas.Bool.{eqb-true}
use Rattle.std.proofs.lemmas.List.Elements.{Contains-append_left, Contains-append_right, Contains-append_cases}
use Rattle.swreq_param.specs.declared.ids.ProtoId.{ProtoId}
use Rattle.swreq_derive.specs.Derivation.{TermRequirement, TermStatement, AssociatedType, Source, Derives, Derivable}
use Rattle.swreq_derive.specs.Derivation.TermRequirement.{Conforms, IsAnyObject, Equals}
use Rattle.swreq_derive.specs.Derivation.TermStatement.{Requires}
use Rattle.swreq_derive.specs.Derivation.Source.{SelfOf}
use Rattle.swreq_derive.specs.Derivation.Derives.{generic, conf, same, layout, assoc_name, assoc_decl, assoc_bind, assoc_conf, assoc_same, assoc_layout, reflex, symm, trans, same_conf, same_layout, same_name, same_decl}
use Rattle.swreq_derive.specs.Kept.{Owned, owned_by, owned_facts, DeriveTheSame}
use Rattle.swreq_param.proofs.swreq_lemmas.Members.{member_cases}
use Rattle.swreq_derive.proofs.Substitution.{stands_for_self}
use Rattle.swreq_derive.proofs.KeptLemmas.{owned_member, member_owned, family_grows, within}

-- A requirement of P in the family with o is one without it, or is that of o.
with_or_without : (front out : List Owned) (o : Owned) (p : ProtoId) (r : TermRequirement) → Contains (owned_by (front ++ (o ∷ out)) p) r
    → Contains (owned_by (front ++ out) p) r ⊎ ((p ≡ o.proto) × (r ≡ o.requirement))
with_or_without front out o p r h =
    let (x, m, e, i) = owned_member (front ++ (o ∷ out)) p r h in
    elim (Contains-append_cases front (o ∷ out) x m) [
      | inl k ↦ inl (subst (λ z. Contains (owned_by (front ++ out) p) z) (sym i)
          (member_owned (front ++ out) p x (Contains-append_left front out x k) e))
      | inr k ↦ elim (member_cases o x out k) [
        | inl j ↦ inr (let n = eqb-true x.proto.rank p.rank e in
            let q : x.proto ≡ p = λ y. record { rank = n y } in
            (sym q ∙ ap (λ (z : Owned). z.proto) j, i ∙ ap (λ (z : Owned). z.requirement) j))
        | inr j ↦ inl (subst (λ z. Contains (owned_by (front ++ out) p) z) (sym i)
            (member_owned (front ++ out) p x (Contains-append_right front out x j) e))
      ]
    ]

-- With fewer requirements of the protocols, of which each that is left out is derivable, the same is derivable.
without : {ds : List AssociatedType} {more : ProtoId → List TermRequirement} {s : Source} {st : TermStatement}
    → Derives (record { associated_types = ds; of_protocol = more }) true s st → (less : ProtoId → List TermRequirement)
    → ((p : ProtoId) (r : TermRequirement) → Contains (more p) r
    → Contains (less p) r ⊎ Derivable (record { associated_types = ds; of_protocol = less }) (SelfOf p) (Requires r))
    → Derives (record { associated_types = ds; of_protocol = less }) true s st
without (generic h) less k = generic h
without (conf h v) less k = conf h (λ e. without (v e) less k)
without (same h v w) less k = same h (λ e. without (v e) less k) (λ e. without (w e) less k)
without (layout h v) less k = layout h (λ e. without (v e) less k)
without (assoc_name e d) less k = assoc_name (without e less k) d
without (assoc_decl e d) less k = assoc_decl (without e less k) d
without (assoc_bind e d) less k = assoc_bind (without e less k) d
without {ds = ds} {s = s} (assoc_conf {t = t} {u = u} {p = p} {q = q} e h v) less k = elim (k p (Conforms u q) h) [
  | inl i ↦ assoc_conf (without e less k) i (λ y. without (v y) less k)
  | inr i ↦ stands_for_self (record { associated_types = ds; of_protocol = less }) s t p (Requires (Conforms u q)) (without e less k) i
]
without {ds = ds} {s = s} (assoc_same {t = t} {u = u} {v = x} {p = p} e h v w) less k = elim (k p (Equals u x) h) [
  | inl i ↦ assoc_same (without e less k) i (λ y. without (v y) less k) (λ y. without (w y) less k)
  | inr i ↦ stands_for_self (record { associated_types = ds; of_protocol = less }) s t p (Requires (Equals u x)) (without e less k) i
]
without {ds = ds} {s = s} (assoc_layout {t = t} {u = u} {p = p} e h v) less k = elim (k p (IsAnyObject u) h) [
  | inl i ↦ assoc_layout (without e less k) i (λ y. without (v y) less k)
  | inr i ↦ stands_for_self (record { associated_types = ds; of_protocol = less }) s t p (Requires (IsAnyObject u)) (without e less k) i
]
without (reflex e) less k = reflex (without e less k)
without (symm e) less k = symm (without e less k)
without (trans e h) less k = trans (without e less k) (without h less k)
without (same_conf e h) less k = same_conf (without e less k) (without h less k)
without (same_layout e h) less k = same_layout (without e less k) (without h less k)
without (same_name e h d) less k = same_name (without e less k) (without h less k) d
without (same_decl e h d) less k = same_decl (without e less k) (without h less k) d

pub can_go : (ds : List AssociatedType) (front out : List Owned) (o : Owned)
    → Derivable (owned_facts ds (front ++ out)) (SelfOf o.proto) (Requires o.requirement)
    → DeriveTheSame ds (front ++ out) (front ++ (o ∷ out))
can_go ds front out o k p st = (
  (λ e. family_grows ds (front ++ out) (front ++ (o ∷ out)) (within front [] out o) p st e),
  λ e. without e (owned_by (front ++ out)) (λ q r h. elim (with_or_without front out o q r h) [
    | inl i ↦ inl i
    | inr i ↦ inr (subst (λ z. Derivable (owned_facts ds (front ++ out)) (SelfOf z) (Requires r)) (sym i.0)
        (subst (λ z. Derivable (owned_facts ds (front ++ out)) (SelfOf o.proto) (Requires z)) (sym i.1) k))
  ]),
)

-- Where the same is derivable without it, a requirement that is derivable with it is derivable without it.
pub is_derived : (ds : List AssociatedType) (front out : List Owned) (o : Owned)
    → Derivable (owned_facts ds (front ++ (o ∷ out))) (SelfOf o.proto) (Requires o.requirement)
    → DeriveTheSame ds (front ++ out) (front ++ (o ∷ out))
    → Derivable (owned_facts ds (front ++ out)) (SelfOf o.proto) (Requires o.requirement)
is_derived ds front out o e alike = (alike o.proto (Requires o.requirement)).1 e
