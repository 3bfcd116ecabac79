-- What is left of a family derives the same, and none of it can be left out.
use Rattle.std.proofs.Common.{◌≡◌, Bool, true, List, [], ◌∷◌, ◌++◌, Contains, sym, subst, inl, inr, append_assoc, nat_eq}
use Rattle.std.proofs.lemmas.List.Elements.{Contains-append_left, Contains-append_right, Contains-append_cases}
use Rattle.swreq_param.specs.declared.ids.ProtoId.{ProtoId}
use Rattle.swreq_derive.specs.Derivation.{TermRequirement, TermStatement, AssociatedType, Source, Derives, Derivable}
use Rattle.swreq_derive.specs.Derivation.Source.{SelfOf}
use Rattle.swreq_derive.specs.Derivation.Derives.{generic, conf, same, layout, assoc_name, assoc_decl, assoc_bind, assoc_conf, assoc_same, assoc_layout, reflex, symm, trans, same_conf, same_layout, same_name, same_decl}
use Rattle.swreq_derive.specs.Kept.{Owned, owned_by, owned_facts, DeriveTheSame, Keeps}
use Rattle.swreq_derive.specs.Kept.Keeps.{nothing, left_out, kept}
use Rattle.swreq_param.proofs.swreq_lemmas.Members.{first_member, later_member, member_cases, no_member, added_cases, added_later, added_first}

-- Derivability grows with the requirements of the protocols, with the guard or without it.
pub grows_with_protocols : {ds : List AssociatedType} {less more : ProtoId → List TermRequirement} {guarded : Bool}
    {s : Source} {st : TermStatement}
    → Derives (record { associated_types = ds; of_protocol = less }) guarded s st
    → ((p : ProtoId) (r : TermRequirement) → Contains (less p) r → Contains (more p) r)
    → Derives (record { associated_types = ds; of_protocol = more }) guarded s st
grows_with_protocols (generic h) g = generic h
grows_with_protocols (conf h v) g = conf h (λ e. grows_with_protocols (v e) g)
grows_with_protocols (same h v w) g = same h (λ e. grows_with_protocols (v e) g) (λ e. grows_with_protocols (w e) g)
grows_with_protocols (layout h v) g = layout h (λ e. grows_with_protocols (v e) g)
grows_with_protocols (assoc_name e d) g = assoc_name (grows_with_protocols e g) d
grows_with_protocols (assoc_decl e d) g = assoc_decl (grows_with_protocols e g) d
grows_with_protocols (assoc_bind e d) g = assoc_bind (grows_with_protocols e g) d
grows_with_protocols (assoc_conf {p = p} e h v) g = assoc_conf (grows_with_protocols e g) (g p _ h) (λ i. grows_with_protocols (v i) g)
grows_with_protocols (assoc_same {p = p} e h v w) g =
    assoc_same (grows_with_protocols e g) (g p _ h) (λ i. grows_with_protocols (v i) g) (λ i. grows_with_protocols (w i) g)
grows_with_protocols (assoc_layout {p = p} e h v) g = assoc_layout (grows_with_protocols e g) (g p _ h) (λ i. grows_with_protocols (v i) g)
grows_with_protocols (reflex e) g = reflex (grows_with_protocols e g)
grows_with_protocols (symm e) g = symm (grows_with_protocols e g)
grows_with_protocols (trans e h) g = trans (grows_with_protocols e g) (grows_with_protocols h g)
grows_with_protocols (same_conf e h) g = same_conf (grows_with_protocols e g) (grows_with_protocols h g)
grows_with_protocols (same_layout e h) g = same_layout (grows_with_protocols e g) (grows_with_protocols h g)
grows_with_protocols (same_name e h d) g = same_name (grows_with_protocols e g) (grows_with_protocols h g) d
grows_with_protocols (same_decl e h d) g = same_decl (grows_with_protocols e g) (grows_with_protocols h g) d

-- ---- parts of a family

pub owned_member : (os : List Owned) (p : ProtoId) (r : TermRequirement) → Contains (owned_by os p) r
    → (o : Owned) × Contains os o × (nat_eq o.proto.rank p.rank ≡ true) × (r ≡ o.requirement)
owned_member [] p r h = no_member r h
owned_member (o ∷ os) p r h = elim (added_cases (nat_eq o.proto.rank p.rank) o.requirement (owned_by os p) r h) [
  | inl e ↦ (o, first_member o os, e.0, e.1)
  | inr k ↦ (let (x, m, n, i) = owned_member os p r k in (x, later_member o x os m, n, i))
]

pub member_owned : (os : List Owned) (p : ProtoId) (o : Owned) → Contains os o → nat_eq o.proto.rank p.rank ≡ true
    → Contains (owned_by os p) o.requirement
member_owned [] p o h e = no_member o h
member_owned (x ∷ os) p o h e = elim (member_cases x o os h) [
  | inl i ↦
      subst (λ z. Contains (owned_by (z ∷ os) p) o.requirement) i (added_first (nat_eq o.proto.rank p.rank) o.requirement (owned_by os p) e)
  | inr k ↦ added_later (nat_eq x.proto.rank p.rank) x.requirement (owned_by os p) o.requirement (member_owned os p o k e)
]

owned_grows : (os ks : List Owned) → ((o : Owned) → Contains os o → Contains ks o) → (p : ProtoId) (r : TermRequirement)
    → Contains (owned_by os p) r → Contains (owned_by ks p) r
owned_grows os ks g p r h =
    let (o, m, e, i) = owned_member os p r h in subst (λ z. Contains (owned_by ks p) z) (sym i) (member_owned ks p o (g o m) e)

-- A larger family derives what a smaller one does.
pub family_grows : (ds : List AssociatedType) (os ks : List Owned) → ((o : Owned) → Contains os o → Contains ks o)
    → (p : ProtoId) (st : TermStatement)
    → Derivable (owned_facts ds os) (SelfOf p) st → Derivable (owned_facts ds ks) (SelfOf p) st
family_grows ds os ks g p st e = grows_with_protocols e (owned_grows os ks g)

-- ---- what is left

same_through : (ds : List AssociatedType) (os ks ls : List Owned) → DeriveTheSame ds os ks → DeriveTheSame ds ks ls → DeriveTheSame ds os ls
same_through ds os ks ls a b p st = ((λ e. (b p st).0 ((a p st).0 e)), λ e. (a p st).1 ((b p st).1 e))

moved : (front rest : List Owned) (o : Owned) → (front ++ o ∷ []) ++ rest ≡ front ++ (o ∷ rest)
moved front rest o = append_assoc front (o ∷ []) rest

-- What is left, with what stands before it, derives what all derived.
pub left_same : {ds : List AssociatedType} {front rest out : List Owned} → Keeps ds front rest out
    → DeriveTheSame ds (front ++ out) (front ++ rest)
left_same nothing = λ p st. ((λ e. e), λ e. e)
left_same {ds = ds} (left_out {front = front} {rest = rest} {out = out} {o = o} k s) =
    same_through ds (front ++ out) (front ++ (o ∷ out)) (front ++ (o ∷ rest)) s
    (subst (λ z. DeriveTheSame ds z (front ++ (o ∷ rest))) (moved front out o)
    (subst (λ z. DeriveTheSame ds ((front ++ o ∷ []) ++ out) z) (moved front rest o) (left_same k)))
left_same {ds = ds} (kept {front = front} {rest = rest} {out = out} {o = o} k n) =
    subst (λ z. DeriveTheSame ds z (front ++ (o ∷ rest))) (moved front out o)
    (subst (λ z. DeriveTheSame ds ((front ++ o ∷ []) ++ out) z) (moved front rest o) (left_same k))

head_of : {x y : Owned} {u v : List Owned} → x ∷ u ≡ y ∷ v → x ≡ y
head_of e = cc

tail_of : {x y : Owned} {u v : List Owned} → x ∷ u ≡ y ∷ v → u ≡ v
tail_of e = cc

pub within : (front a b : List Owned) (o : Owned) → (x : Owned) → Contains (front ++ (a ++ b)) x → Contains (front ++ (a ++ (o ∷ b))) x
within front a b o x h = elim (Contains-append_cases front (a ++ b) x h) [
  | inl k ↦ Contains-append_left front (a ++ (o ∷ b)) x k
  | inr k ↦ Contains-append_right front (a ++ (o ∷ b)) x (elim (Contains-append_cases a b x k) [
    | inl i ↦ Contains-append_left a (o ∷ b) x i
    | inr i ↦ Contains-append_right a (o ∷ b) x (later_member o x b i)
  ])
]

-- A requirement that stayed is needed, also where only some of what stood before it is there: `some` of `front`, which derive what `front`
-- does.
pub none_left_out : {ds : List AssociatedType} {front rest out : List Owned} → Keeps ds front rest out → (some a b : List Owned) (o : Owned)
    → ((x : Owned) → Contains some x → Contains front x) → out ≡ a ++ (o ∷ b)
    → DeriveTheSame ds (some ++ (a ++ b)) (front ++ out) → ⊥
none_left_out nothing some [] b o g e s = cc
none_left_out nothing some (x ∷ a) b o g e s = cc
none_left_out {ds = ds} (left_out {front = front} {rest = rest} {out = out} {o = x} k d) some a b o g e s =
    none_left_out k some a b o (λ y h. Contains-append_left front (x ∷ []) y (g y h)) e
    (subst (λ z. DeriveTheSame ds (some ++ (a ++ b)) z) (sym (moved front out x))
    (same_through ds (some ++ (a ++ b)) (front ++ out) (front ++ (x ∷ out)) s d))
none_left_out {ds = ds} (kept {front = front} {rest = rest} {out = out} {o = x} k n) some [] b o g e s =
    n (λ p st. (
      family_grows ds (front ++ out) (front ++ (x ∷ out)) (within front [] out x) p st,
      λ i. family_grows ds (some ++ b) (front ++ out) (λ y h. elim (Contains-append_cases some b y h) [
        | inl j ↦ Contains-append_left front out y (g y j)
        | inr j ↦ Contains-append_right front out y (subst (λ z. Contains z y) (sym (tail_of e)) j)
      ]) p st ((s p st).1 i),
    ))
none_left_out {ds = ds} (kept {front = front} {rest = rest} {out = out} {o = x} k n) some (y ∷ a) b o g e s =
    none_left_out k (some ++ y ∷ []) a b o (λ z h. elim (Contains-append_cases some (y ∷ []) z h) [
      | inl i ↦ Contains-append_left front (x ∷ []) z (g z i)
      | inr i ↦ Contains-append_right front (x ∷ []) z (subst (λ w. Contains (w ∷ []) z) (sym (head_of e)) i)
    ]) (tail_of e)
    (subst (λ z. DeriveTheSame ds z ((front ++ x ∷ []) ++ out)) (sym (moved some (a ++ b) y))
    (subst (λ z. DeriveTheSame ds (some ++ (y ∷ (a ++ b))) z) (sym (moved front out x)) s))

pub family_same : (ds : List AssociatedType) (all out : List Owned) → Keeps ds [] all out → DeriveTheSame ds out all
family_same ds all out k = left_same k

pub family_minimal : (ds : List AssociatedType) (all out a b : List Owned) (o : Owned) → Keeps ds [] all out → out ≡ a ++ (o ∷ b)
    → DeriveTheSame ds (a ++ b) out → ⊥
family_minimal ds all out a b o k e s = none_left_out k [] a b o (λ x h. h) e s
