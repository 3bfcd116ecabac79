-- From [τ_0_0 : P] the same is derivable with a family and with its part that P reaches.
use Rattle.std.proofs.Common.{◌≡◌, ◌∙◌, ◌↔◌, ap₂, arith, length, inl, inr, refl, sym, subst, ℕ, suc, zero, Bool, true, false, List, [], ◌∷◌, Contains, slice_get, Some}
use Rattle.std.proofs.lemmas.Option.{slice_get_within}
use Rattle.swreq_print.proofs.swreq_lemmas.Elements.{there_is}
use Rattle.swreq_print.proofs.swreq_lemmas.Members.{first_member, later_member, member_cases, no_member}
use Rattle.swreq_valid.specs.swreq_param.declared.ids.ProtoId.{ProtoId}
use Rattle.swreq_valid.specs.swreq_param.Terms.{Term}
use Rattle.swreq_valid.specs.swreq_derive.Derivation.{AssociatedType, Derivable, TermFacts, TermRequirement, TermStatement}
use Rattle.swreq_valid.specs.swreq_derive.Derivation.Derives.{generic, conf, same, layout, assoc_name, assoc_decl, assoc_bind, assoc_conf, assoc_same, assoc_layout, reflex, symm, trans, same_conf, same_layout, same_name, same_decl}
use Rattle.swreq_valid.specs.swreq_derive.Derivation.Source.{SelfOf}
use Rattle.swreq_valid.specs.swreq_derive.Derivation.TermRequirement.{Conforms}
use Rattle.swreq_valid.specs.swreq_derive.Derivation.TermStatement.{Requires}
use Rattle.swreq_valid.specs.swreq_derive.Kept.{Owned, owned_by, owned_facts}
use Rattle.swreq_valid.proofs.swreq_derive.InstanceLemmas.{same_proto}
use Rattle.swreq_valid.proofs.swreq_derive.KeptLemmas.{family_grows, member_owned, owned_member}
use Rattle.swreq_valid.specs.Flags.{chosen}
use Rattle.swreq_reqsig.specs.Families.{own}
use Rattle.swreq_reqsig.specs.Reaching.{AreReachedFlags, IsReachedPart, Reaches}
use Rattle.swreq_reqsig.specs.Reaching.Reaches.{by_conformance, itself}

-- a requirement of a protocol is of the family
pub own_there : (family : List Owned) (q : ProtoId) (r : TermRequirement) → Contains (owned_by family q) r → Contains family (own q r)
own_there family q r c =
    let (o, m, n, i) = owned_member family q r c in
    let proto : o.proto ≡ q = same_proto o.proto q n in
    let is : o ≡ own q r = λ k. record { proto = proto k; requirement = sym i k } in
    subst (λ (z : Owned). Contains family z) is m

-- ---- conformances are to reached protocols

module _ (ds : List AssociatedType) (family : List Owned) (p : ProtoId) where
  abbrev whole : TermFacts
  whole = owned_facts ds family

  -- a requirement of a reached protocol leads to a reached one
  leads_on : (q r : ProtoId) (u : Term) → Reaches family p q → Contains (owned_by family q) (Conforms u r) → Reaches family p r
  leads_on q r u h c = by_conformance h (own_there family q (Conforms u r) c)

  of_self : (q r : ProtoId) (t u : Term) → Reaches family p q → Conforms t r ≡ Conforms u q → Reaches family p r
  of_self q r t u h e = let alike : r ≡ q = cc in subst (Reaches family p) (sym alike) h

  pub conforms_to : {q r : ProtoId} {t : Term} → Derivable whole (SelfOf q) (Requires (Conforms t r))
      → Reaches family p q → Reaches family p r
  conforms_to {q = q} (conf {t = t} {p = r} e v) h = of_self q r t _ h e
  conforms_to (assoc_conf {u = u} {p = x} {q = y} e c v) h = leads_on x y u (conforms_to e h) c
  conforms_to (same_conf e i) h = conforms_to e h

-- ---- and what they require is in the reached part

module _ (ds : List AssociatedType) (family part : List Owned) (p : ProtoId) (is : IsReachedPart family p part) where
  in_part : (q : ProtoId) (r : TermRequirement) → Reaches family p q → Contains (owned_by family q) r → Contains (owned_by part q) r
  in_part q r h c =
      let (o, m, n, i) = owned_member family q r c in
      let proto : o.proto ≡ q = same_proto o.proto q n in
      subst (λ (z : TermRequirement). Contains (owned_by part q) z) (sym i)
      (member_owned part q o ((is o).1 (m, subst (Reaches family p) (sym proto) h)) n)

  stays : {q : ProtoId} {st : TermStatement} → Derivable (owned_facts ds family) (SelfOf q) st → Reaches family p q
      → Derivable (owned_facts ds part) (SelfOf q) st
  stays (generic e) h = generic e
  stays (conf e v) h = conf e (λ i. stays (v i) h)
  stays (same e v w) h = same e (λ i. stays (v i) h) (λ i. stays (w i) h)
  stays (layout e v) h = layout e (λ i. stays (v i) h)
  stays (assoc_name e d) h = assoc_name (stays e h) d
  stays (assoc_decl e d) h = assoc_decl (stays e h) d
  stays (assoc_bind e d) h = assoc_bind (stays e h) d
  stays (assoc_conf {p = x} e c v) h =
      let there = conforms_to ds family p e h in
      assoc_conf (stays e h) (in_part x _ there c) (λ i. stays (v i) there)
  stays (assoc_same {p = x} e c v w) h =
      let there = conforms_to ds family p e h in
      assoc_same (stays e h) (in_part x _ there c) (λ i. stays (v i) there) (λ i. stays (w i) there)
  stays (assoc_layout {p = x} e c v) h =
      let there = conforms_to ds family p e h in
      assoc_layout (stays e h) (in_part x _ there c) (λ i. stays (v i) there)
  stays (reflex e) h = reflex (stays e h)
  stays (symm e) h = symm (stays e h)
  stays (trans e i) h = trans (stays e h) (stays i h)
  stays (same_conf e i) h = same_conf (stays e h) (stays i h)
  stays (same_layout e i) h = same_layout (stays e h) (stays i h)
  stays (same_name e i d) h = same_name (stays e h) (stays i h) d
  stays (same_decl e i d) h = same_decl (stays e h) (stays i h) d

  pub derives_by_reach : (st : TermStatement)
      → Derivable (owned_facts ds family) (SelfOf p) st ↔ Derivable (owned_facts ds part) (SelfOf p) st
  derives_by_reach st = (
    (λ e. stays e (itself refl)),
    λ e. family_grows ds part family (λ o c. ((is o).0 c).0) p st e,
  )

pub conforms_by_reach : (ds : List AssociatedType) (family : List Owned) (p q : ProtoId) (t : Term)
    → Derivable (owned_facts ds family) (SelfOf p) (Requires (Conforms t q)) → Reaches family p q
conforms_by_reach ds family p q t e = conforms_to ds family p e (itself refl)

-- ---- the part, by flags

module _ {A : Type 0} where
  -- one that is chosen stands at a place whose flag is set
  pub chosen_at : (xs : List A) (bs : List Bool) (x : A) → Contains (chosen xs bs) x
      → (n : ℕ) × (slice_get xs n ≡ Some x) × (slice_get bs n ≡ Some true)
  chosen_at [] bs x c = no_member x c
  chosen_at (y ∷ xs) [] x c = no_member x c
  chosen_at (y ∷ xs) (true ∷ bs) x c = elim (member_cases y x (chosen xs bs) c) [
    | inl e ↦ (0, (λ i. Some (sym e i)), refl)
    | inr k ↦ (let (n, at, set) = chosen_at xs bs x k in (suc n, at, set))
  ]
  chosen_at (y ∷ xs) (false ∷ bs) x c = let (n, at, set) = chosen_at xs bs x c in (suc n, at, set)

  pub at_chosen : (xs : List A) (bs : List Bool) (n : ℕ) (x : A) → slice_get xs n ≡ Some x → slice_get bs n ≡ Some true
      → Contains (chosen xs bs) x
  at_chosen [] bs n x e h = absurd cc
  at_chosen (y ∷ xs) [] n x e h = absurd cc
  at_chosen (y ∷ xs) (true ∷ bs) zero x e h =
      let is : y ≡ x = cc in subst (λ z. Contains (y ∷ chosen xs bs) z) is (first_member y (chosen xs bs))
  at_chosen (y ∷ xs) (true ∷ bs) (suc n) x e h = later_member y x (chosen xs bs) (at_chosen xs bs n x e h)
  at_chosen (y ∷ xs) (false ∷ bs) zero x e h = absurd (let f : false ≡ true = cc in cc)
  at_chosen (y ∷ xs) (false ∷ bs) (suc n) x e h = at_chosen xs bs n x e h

module _ (all : List Owned) (flags part : List Bool) (p : ProtoId) (are : AreReachedFlags all flags p part) where
  pub flags_give_part : IsReachedPart (chosen all flags) p (chosen all part)
  flags_give_part o = (
    (λ c. let (n, at, set) = chosen_at all part o c in
        let both = (are.each n o at).0 set in (at_chosen all flags n o at both.0, both.1)),
    λ k. let (n, at, set) = chosen_at all flags o k.0 in at_chosen all part n o at ((are.each n o at).1 (set, k.1)),
  )

-- ---- the flags are one list

same_flag : (a b : Bool) → (Some a ≡ Some true → Some b ≡ Some true) → (Some b ≡ Some true → Some a ≡ Some true) → a ≡ b
same_flag true true h g = refl
same_flag true false h g = let e = h refl in cc
same_flag false true h g = let e = g refl in cc
same_flag false false h g = refl

flags_same : (xs ys : List Bool) → length xs ≡ length ys → ((n : ℕ) → slice_get xs n ≡ Some true → slice_get ys n ≡ Some true)
    → ((n : ℕ) → slice_get ys n ≡ Some true → slice_get xs n ≡ Some true) → xs ≡ ys
flags_same [] [] l h g = refl
flags_same [] (y ∷ ys) l h g = absurd cc
flags_same (x ∷ xs) [] l h g = absurd cc
flags_same (x ∷ xs) (y ∷ ys) l h g =
    ap₂ (λ a b. a ∷ b) (same_flag x y (h 0) (g 0)) (flags_same xs ys (omega (arith, l)) (λ n. h (suc n)) (λ n. g (suc n)))

-- one of all those whose flags are set
one_there : (all : List Owned) (flags : List Bool) (n : ℕ) → length flags ≡ length all → slice_get flags n ≡ Some true
    → (o : Owned) × (slice_get all n ≡ Some o)
one_there all flags n l set = there_is all n (let w = slice_get_within flags n true set in omega (arith, l, w))

pub reached_flags_one : (all : List Owned) (flags : List Bool) (p : ProtoId) (part also : List Bool) → AreReachedFlags all flags p part
    → AreReachedFlags all flags p also → part ≡ also
reached_flags_one all flags p part also a b =
    flags_same part also (a.count ∙ sym b.count)
    (λ n set. let o = one_there all part n a.count set in (b.each n o.0 o.1).1 ((a.each n o.0 o.1).0 set))
    (λ n set. let o = one_there all also n b.count set in (a.each n o.0 o.1).1 ((b.each n o.0 o.1).0 set))
