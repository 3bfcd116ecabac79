-- What the tests of names mean.
use Rattle.std.proofs.Common.{◌≡◌, ◌⊎◌, inl, inr, ⊎_elim, ℕ, zero, suc, ◌+◌, ◌<◌, ◌≤◌, Bool, true, false, cond, ◌&&◌, List, [], ◌∷◌, ◌++◌, length, get_or, slice_get, Option, None, Some, Contains, nat_lt, refl, sym, ap, subst, ◌∙◌, arith, true≢false}
use Rattle.std.specs.List.{position_from}
use Rattle.std.specs.Option.{option_map, is_some}
use Rattle.std.specs.Str.{bytes_eq}
use Rattle.std.proofs.lemmas.Bool.{ltb-true, lt-ltb, or_cases, or_left, or_right, and_parts, and_from}
use Rattle.std.proofs.lemmas.List.{map-append}
use Rattle.std.proofs.lemmas.List.Elements.{Contains-append_left, Contains-append_right, Contains-append_cases}
use Rattle.std.proofs.lemmas.Option.{same_Some}
use Rattle.std.proofs.lemmas.Slice.Eq.{bytes_eq-Decides}
use Rattle.swreq_names.proofs.swreq_lemmas.Elements.{get_contains}
use Rattle.swreq_names.proofs.swreq_lemmas.Members.{no_member, first_member, later_member, member_cases}
use Rattle.swreq_decl.specs.declared.skeleton.Skeleton.{Skeleton}
use Rattle.swreq_names.specs.declared.directory.Declaration.{Declaration}
use Rattle.swreq_names.specs.declared.signature.Signature.{Signature}
use Rattle.swreq_names.specs.declared.signature.Param.{Param}
use Rattle.swreq_names.specs.declared.signature.Param.TheVariants.{Outer, Own}
use Rattle.swreq_names.specs.Directories.{names_of}
use Rattle.swreq_names.specs.Inheritance.{TellsInheritance}
use Rattle.swreq_names.specs.Spaces.{place, is_declared, offset_of, is_declared_before, self_bytes, outer_params, own_params, declares, any_below, has_member, Spaces, spaces}
use Rattle.swreq_names.proofs.Beginnings.{below_from}
use Rattle.swreq_names.proofs.Firsts.{same_true}
use Rattle.swreq_resolve.specs.Refused.{HasEarlier, DeclaresName, HasMemberName, HasParameter}
use Rattle.swreq_resolve.specs.Refusals.{begins_in_protocol, begins_in_signature}

-- ---- a name that a list has

found_to : (name : List ℕ) (names : List (List ℕ)) (i : ℕ) → is_some (position_from (bytes_eq name) i names) ≡ true → Contains names name
found_to name [] i e = absurd (true≢false (sym e))
found_to name (x ∷ xs) i e = by (bytes_eq name x) refl e (found_to name xs (i + 1))
  where
    by : (b : Bool) → bytes_eq name x ≡ b
        → is_some (cond b (Some i) (position_from (bytes_eq name) (i + 1) xs)) ≡ true
        → (is_some (position_from (bytes_eq name) (i + 1) xs) ≡ true → Contains xs name) → Contains (x ∷ xs) name
    by true h e more = subst (λ y. Contains (x ∷ xs) y) (sym ((bytes_eq-Decides name x).0 h)) (first_member x xs)
    by false h e more = later_member x name xs (more e)

found_from : (name : List ℕ) (names : List (List ℕ)) (i : ℕ) → Contains names name → is_some (position_from (bytes_eq name) i names) ≡ true
found_from name [] i c = no_member name c
found_from name (x ∷ xs) i c = by (bytes_eq name x) refl (found_from name xs (i + 1))
  where
    by : (b : Bool) → bytes_eq name x ≡ b → (Contains xs name → is_some (position_from (bytes_eq name) (i + 1) xs) ≡ true)
        → is_some (cond b (Some i) (position_from (bytes_eq name) (i + 1) xs)) ≡ true
    by true h more = refl
    by false h more = ⊎_elim (λ e. absurd (true≢false (sym (same_true name x e) ∙ h))) more (member_cases x name xs c)

declared_to : (ds : List Declaration) (name : List ℕ) → is_declared ds name ≡ true → Contains (names_of ds) name
declared_to ds name e = found_to name (names_of ds) 0 e

declared_from : (ds : List Declaration) (name : List ℕ) → Contains (names_of ds) name → is_declared ds name ≡ true
declared_from ds name c = found_from name (names_of ds) 0 c

-- ---- an earlier declaration

-- Each declaration stands before those that the list has after it.
abbrev pub AreInOrder : List Declaration → Type 0
AreInOrder [] = Unit {0}
AreInOrder (d ∷ ds) = ((e : Declaration) → Contains ds e → d.at < e.at) × AreInOrder ds

-- Each list of declared names stands in order, and no struct and function have one place.
pub record IsInOrder (d : Spaces) : Type 0 where
  pub protocols : AreInOrder d.protocols
  pub structs : AreInOrder d.structs
  pub functions : AreInOrder d.functions
  pub members : (i : ℕ) → AreInOrder (get_or d.members i [])
  pub primaries : (i : ℕ) → AreInOrder (get_or d.primaries i [])
  pub nested : (i : ℕ) → AreInOrder (get_or d.nested i [])
  pub own : (g : Signature) → AreInOrder (own_params d g)
  pub outer : (g : Signature) → AreInOrder (outer_params d g)
  pub apart : (x y : Declaration) → Contains d.structs x → Contains d.functions y → x.at ≡ y.at → ⊥

-- what stands at the place of a name
placed_from : (ds : List Declaration) (name : List ℕ) (i k : ℕ) → position_from (bytes_eq name) i (names_of ds) ≡ Some k
    → (j : ℕ) × (d : Declaration) × (k ≡ i + j) × (slice_get ds j ≡ Some d) × (d.name ≡ name)
placed_from [] name i k e = absurd cc
placed_from (d ∷ ds) name i k e = by (bytes_eq name d.name) refl e (placed_from ds name (i + 1) k)
  where
    by : (b : Bool) → bytes_eq name d.name ≡ b → cond b (Some i) (position_from (bytes_eq name) (i + 1) (names_of ds)) ≡ Some k
        → (position_from (bytes_eq name) (i + 1) (names_of ds) ≡ Some k
        → (j : ℕ) × (e : Declaration) × (k ≡ i + 1 + j) × (slice_get ds j ≡ Some e) × (e.name ≡ name))
        → (j : ℕ) × (e : Declaration) × (k ≡ i + j) × (slice_get (d ∷ ds) j ≡ Some e) × (e.name ≡ name)
    by true h f more = (0, d, (let s = same_Some i k f in omega (arith, s)), refl, sym ((bytes_eq-Decides name d.name).0 h))
    by false h f more = let r = more f in (suc r.0, r.1, (let s = r.2 in omega (arith, s)), r.3, r.4)

pub placed_at : (ds : List Declaration) (name : List ℕ) (k : ℕ) → place ds name ≡ Some k
    → (d : Declaration) × (slice_get ds k ≡ Some d) × (d.name ≡ name)
placed_at ds name k e =
    let r = placed_from ds name 0 k e in
    let z : k ≡ r.0 = (let s = r.2 in omega (arith, s)) in
    (r.1, ap (slice_get ds) z ∙ r.3, r.4)

pub offset_at : (ds : List Declaration) (k : ℕ) (d : Declaration) → slice_get ds k ≡ Some d → offset_of ds k ≡ d.at
offset_at ds k d e = ap (λ o. elim o [ None ↦ 0 | Some d ↦ d.at ]) e

-- what a look-up finds, which stands no later than the offset
abbrev pub IsFoundBy : List Declaration → ℕ → ℕ → Option ℕ → Type 0
IsFoundBy ds i at o = (j : ℕ) × (d : Declaration) × (o ≡ Some (i + j)) × (slice_get ds j ≡ Some d) × (d.at ≤ at)

-- Where an ordered list has a name, a look-up finds one that stands no later.
pub first_at : (ds : List Declaration) (name : List ℕ) (i : ℕ) (e : Declaration) → Contains ds e → e.name ≡ name → AreInOrder ds
    → IsFoundBy ds i e.at (position_from (bytes_eq name) i (names_of ds))
first_at [] name i e c same o = no_member e c
first_at (d ∷ ds) name i e c same o = by (bytes_eq name d.name) refl (λ h. first_at ds name (i + 1) e h same o.1)
  where
    no_later : d.at ≤ e.at
    no_later = ⊎_elim (λ s. let t = ap (λ (x : Declaration). x.at) s in omega (arith, t))
        (λ h. let l = o.0 e h in omega (arith, l)) (member_cases d e ds c)

    behind : bytes_eq name d.name ≡ false → Contains ds e
    behind h =
        ⊎_elim (λ s. absurd (true≢false (sym (same_true name d.name (sym same ∙ ap (λ (x : Declaration). x.name) s)) ∙ h))) (λ b. b)
        (member_cases d e ds c)

    by : (b : Bool) → bytes_eq name d.name ≡ b
        → (Contains ds e → IsFoundBy ds (i + 1) e.at (position_from (bytes_eq name) (i + 1) (names_of ds)))
        → IsFoundBy (d ∷ ds) i e.at (cond b (Some i) (position_from (bytes_eq name) (i + 1) (names_of ds)))
    by true h more = let z : i ≡ i + 0 = omega arith in (0, d, ap Some z, refl, no_later)
    by false h more =
        let r = more (behind h) in
        let z : i + 1 + r.0 ≡ i + suc r.0 = omega arith in
        (suc r.0, r.1, r.2 ∙ ap Some z, r.3, r.4)

pub earlier_to : (ds : List Declaration) (name : List ℕ) (at : ℕ) → is_declared_before ds name at ≡ true → HasEarlier ds name at
earlier_to ds name at e = by (place ds name) refl e
  where
    here : (k : ℕ) → place ds name ≡ Some k → nat_lt (offset_of ds k) at ≡ true → HasEarlier ds name at
    here k p l =
        let r = placed_at ds name k p in
        record {
          earlier = r.0;
          declared = get_contains ds k r.0 r.1;
          same = r.2;
          before = subst (λ n. n < at) (offset_at ds k r.0 r.1) (ltb-true (offset_of ds k) at l);
        }

    by : (o : Option ℕ) → place ds name ≡ o → elim o [ None ↦ false | Some k ↦ nat_lt (offset_of ds k) at ] ≡ true → HasEarlier ds name at
    by None p l = absurd (true≢false (sym l))
    by (Some k) p l = here k p l

pub earlier_from : (ds : List Declaration) (name : List ℕ) (at : ℕ) → AreInOrder ds → HasEarlier ds name at
    → is_declared_before ds name at ≡ true
earlier_from ds name at o h =
    let r = first_at ds name 0 h.earlier h.declared h.same o in
    let z : 0 + r.0 ≡ r.0 = omega arith in
    let less : offset_of ds r.0 < at =
    subst (λ n. n < at) (sym (offset_at ds r.0 r.1 r.3)) (let l = r.4 in let b = h.before in omega (arith, l, b)) in
    ap (λ p. elim p [ None ↦ false | Some k ↦ nat_lt (offset_of ds k) at ]) (r.2 ∙ ap Some z)
    ∙ lt-ltb (offset_of ds r.0) at less

-- an earlier one of two lists
pub earlier_left : (ds es : List Declaration) (name : List ℕ) (at : ℕ) → HasEarlier ds name at → HasEarlier (ds ++ es) name at
earlier_left ds es name at h =
    record { earlier = h.earlier; declared = Contains-append_left ds es h.earlier h.declared; same = h.same; before = h.before }

pub earlier_right : (ds es : List Declaration) (name : List ℕ) (at : ℕ) → HasEarlier es name at → HasEarlier (ds ++ es) name at
earlier_right ds es name at h =
    record { earlier = h.earlier; declared = Contains-append_right ds es h.earlier h.declared; same = h.same; before = h.before }

pub earlier_cases : (ds es : List Declaration) (name : List ℕ) (at : ℕ) → HasEarlier (ds ++ es) name at
    → HasEarlier ds name at ⊎ HasEarlier es name at
earlier_cases ds es name at h =
    ⊎_elim
    (λ c. inl (record { earlier = h.earlier; declared = c; same = h.same; before = h.before }))
    (λ c. inr (record { earlier = h.earlier; declared = c; same = h.same; before = h.before }))
    (Contains-append_cases ds es h.earlier h.declared)

-- ---- members of protocols

pub any_to : (test : ℕ → Bool) (n : ℕ) → any_below test n ≡ true → (j : ℕ) × (test j ≡ true)
any_to test zero e = absurd (true≢false (sym e))
any_to test (suc n) e = ⊎_elim (λ h. (n, h)) (λ h. any_to test n h) (or_cases (test n) (any_below test n) e)

-- a list of lists has something only within
something_within : (dss : List (List Declaration)) (j : ℕ) (name : List ℕ) → Contains (names_of (get_or dss j [])) name → j < length dss
something_within [] j name c = no_member name c
something_within (ds ∷ dss) zero name c = omega arith
something_within (ds ∷ dss) (suc j) name c = let l = something_within dss j name c in omega (arith, l)

module _ (text : List ℕ) (s : Skeleton) where
  abbrev d : Spaces
  d = spaces text s

  pub declares_to : (i : ℕ) (name : List ℕ) → declares d i name ≡ true → DeclaresName text s i name
  declares_to i name e = declared_to (get_or d.members i []) name e

  pub declares_from : (i : ℕ) (name : List ℕ) → DeclaresName text s i name → declares d i name ≡ true
  declares_from i name c = declared_from (get_or d.members i []) name c

  -- ---- generic parameters

  pub parameter_to : (g : Signature) (name : List ℕ) → begins_in_signature d g name ≡ true → HasParameter text s g name
  parameter_to g name e =
      subst (λ ns. Contains ns name) (sym (map-append (λ (x : Declaration). x.name) (outer_params d g) (own_params d g)))
      (by (place (outer_params d g) name) refl e)
    where
      own_to : (o : Option ℕ) → place (own_params d g) name ≡ o → is_some (option_map Own o) ≡ true
          → Contains (names_of (own_params d g)) name
      own_to None p e = absurd (true≢false (sym e))
      own_to (Some k) p e = declared_to (own_params d g) name (ap is_some p)

      by : (o : Option ℕ) → place (outer_params d g) name ≡ o
          → is_some (elim o as (λ _. Option Param) [ None ↦ option_map Own (place (own_params d g) name) | Some k ↦ Some (Outer k) ]) ≡ true
          → Contains (names_of (outer_params d g) ++ names_of (own_params d g)) name
      by None p e =
          Contains-append_right (names_of (outer_params d g)) (names_of (own_params d g)) name (own_to (place (own_params d g) name) refl e)
      by (Some k) p e =
          Contains-append_left (names_of (outer_params d g)) (names_of (own_params d g)) name
          (declared_to (outer_params d g) name (ap is_some p))

  pub parameter_from : (g : Signature) (name : List ℕ) → HasParameter text s g name → begins_in_signature d g name ≡ true
  parameter_from g name c = by (place (outer_params d g) name) refl
    where
      cases : Contains (names_of (outer_params d g)) name ⊎ Contains (names_of (own_params d g)) name
      cases =
          Contains-append_cases (names_of (outer_params d g)) (names_of (own_params d g)) name
          (subst (λ ns. Contains ns name) (map-append (λ (x : Declaration). x.name) (outer_params d g) (own_params d g)) c)

      own_from : (o : Option ℕ) → is_some o ≡ true → is_some (option_map Own o) ≡ true
      own_from None e = absurd (true≢false (sym e))
      own_from (Some k) e = refl

      by : (o : Option ℕ) → place (outer_params d g) name ≡ o
          → is_some (elim o as (λ _. Option Param) [ None ↦ option_map Own (place (own_params d g) name) | Some k ↦ Some (Outer k) ]) ≡ true
      by (Some k) p = refl
      by None p =
          ⊎_elim (λ h. absurd (true≢false (sym (declared_from (outer_params d g) name h) ∙ ap is_some p)))
          (λ h. own_from (place (own_params d g) name) (declared_from (own_params d g) name h)) cases

  -- ---- member names

  module _ (inherits : ℕ → ℕ → Bool) (tells : TellsInheritance text s inherits) (i : ℕ) (name : List ℕ) where
    abbrev inherited : ℕ → Bool
    inherited j = inherits i j && declares d j name

    pub member_to : has_member d inherits i name ≡ true → HasMemberName text s i name
    member_to e =
        ⊎_elim (λ h. inl (declares_to i name h))
        (λ h. let r = any_to inherited (length d.members) h in
        let p = and_parts (inherits i r.0) (declares d r.0 name) r.1 in
        inr (r.0, (tells i r.0).0 p.0, declares_to r.0 name p.1))
        (or_cases (declares d i name) (any_below inherited (length d.members)) e)

    pub member_from : HasMemberName text s i name → has_member d inherits i name ≡ true
    member_from (inl c) = or_left (declares d i name) (any_below inherited (length d.members)) (declares_from i name c)
    member_from (inr (j, k, c)) =
        or_right (declares d i name) (any_below inherited (length d.members))
        (below_from inherited (length d.members) j (something_within d.members j name c)
        (and_from (inherits i j) (declares d j name) ((tells i j).1 k) (declares_from j name c)))

    pub begins_to : begins_in_protocol d inherits i name ≡ true → (name ≡ self_bytes) ⊎ HasMemberName text s i name
    begins_to e =
        ⊎_elim (λ h. inl (sym ((bytes_eq-Decides self_bytes name).0 h))) (λ h. inr (member_to h))
        (or_cases (bytes_eq self_bytes name) (has_member d inherits i name) e)

    pub begins_from : (name ≡ self_bytes) ⊎ HasMemberName text s i name → begins_in_protocol d inherits i name ≡ true
    begins_from (inl e) = or_left (bytes_eq self_bytes name) (has_member d inherits i name) (same_true self_bytes name (sym e))
    begins_from (inr h) = or_right (bytes_eq self_bytes name) (has_member d inherits i name) (member_from h)
