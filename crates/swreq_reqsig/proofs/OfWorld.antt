-- What one derives from with a part of the requirements of a world: by lists for each protocol, and by one list.
use Rattle.std.proofs.Common.{◌≡◌, ◌∙◌, ◌↔◌, inl, inr, refl, sym, ap, subst, ℕ, zero, suc, ◌<◌, arith, Bool, true, List, [], ◌∷◌, ◌++◌, length, map, take, drop, get_or, slice_get, Some, Contains}
use Rattle.std.specs.Bool.{nat_eq}
use Rattle.std.proofs.lemmas.Bool.{eq-eqb}
use Rattle.std.proofs.lemmas.List.{length-map}
use Rattle.std.proofs.lemmas.List.Elements.{Contains-append_cases, Contains-append_left, Contains-append_right}
use Rattle.std.proofs.lemmas.Option.{slice_get-get_or, slice_get_within}
use Rattle.swreq_print.proofs.swreq_lemmas.Elements.{contains_get}
use Rattle.swreq_print.proofs.swreq_lemmas.Members.{contains_map, contains_of_map, member_cases, no_member}
use Rattle.swreq_valid.specs.swreq_param.declared.ids.ProtoId.{ProtoId}
use Rattle.swreq_valid.specs.swreq_param.Terms.{self}
use Rattle.swreq_valid.specs.swreq_derive.Derivation.{AssociatedType, Derivable, TermFacts, TermRequirement, TermStatement, for_self}
use Rattle.swreq_valid.specs.swreq_derive.Derivation.Derives.{assoc_conf, assoc_layout, assoc_same, conf, generic}
use Rattle.swreq_valid.specs.swreq_derive.Derivation.Source.{SelfOf}
use Rattle.swreq_valid.specs.swreq_derive.Derivation.TermRequirement.{Conforms, IsAnyObject, Equals}
use Rattle.swreq_valid.specs.swreq_derive.Derivation.TermStatement.{Requires}
use Rattle.swreq_valid.specs.swreq_derive.Kept.{Owned, owned_facts, owned_by}
use Rattle.swreq_valid.specs.swreq_derive.WellFormed.{AreProtocolsWellFormed, HasValidSides}
use Rattle.swreq_valid.proofs.swreq_derive.InstanceLemmas.{same_proto}
use Rattle.swreq_valid.proofs.swreq_derive.KeptLemmas.{grows_with_protocols, member_owned, owned_member}
use Rattle.swreq_valid.proofs.swreq_correspondence.Correspondence.{substitute-self}
use Rattle.swreq_valid.specs.swreq_symbols.Meaning.{facts_of}
use Rattle.swreq_valid.proofs.swreq_symbols.Symbols.{text_law}
use Rattle.swreq_valid.specs.swreq_world.Closed.{IsClosed}
use Rattle.swreq_valid.specs.swreq_world.Worlds.{TextWorld, WorldOver, requirements_of}
use Rattle.swreq_valid.specs.swreq_lowering.Requirements.{PlacedRequirement}
use Rattle.swreq_valid.specs.Flags.{chosen}
use Rattle.swreq_valid.specs.Keeping.{flags_of, kept_facts}
use Rattle.swreq_valid.proofs.Flagged.{chosen_in, chosen_map}
use Rattle.swreq_valid.proofs.Once.{flags_at, once}
use Rattle.swreq_reqsig.proofs.Choosing.{chosen-append}
use Rattle.swreq_reqsig.specs.Families.{associated_types_of, family_of, flag_lists, in_lists, own, owned, owned_in}

-- ---- what conforms derives

-- a usable requirement of P is derivable from [τ_0_0 : P]
pub usable_derivable : (f : TermFacts) (p : ProtoId) (r : TermRequirement) → Contains (f.of_protocol p) r → HasValidSides f (SelfOf p) r
    → Derivable f (SelfOf p) (Requires r)
usable_derivable f p (Conforms u q) c v =
    subst (λ z. Derivable f (SelfOf p) (Requires (Conforms z q))) (substitute-self u v)
    (assoc_conf {u = u} (conf refl (λ _. generic refl)) c (λ _. v))
usable_derivable f p (IsAnyObject u) c v =
    subst (λ z. Derivable f (SelfOf p) (Requires (IsAnyObject z))) (substitute-self u v)
    (assoc_layout {u = u} (conf refl (λ _. generic refl)) c (λ _. v))
usable_derivable f p (Equals u x) c v =
    subst (λ z. Derivable f (SelfOf p) (Requires (Equals z x))) (substitute-self u v.0)
    (subst (λ z. Derivable f (SelfOf p) (Requires (Equals (for_self self u) z))) (substitute-self x v.1)
    (assoc_same {u = u} {v = x} (conf refl (λ _. generic refl)) c (λ _. v.0) (λ _. v.1)))

-- ---- parts of the requirements

-- There is a list of flags for each protocol.
pub lists_count : {R Q : Type 0} (w : WorldOver R Q) (ps : List ProtoId) (flags : List Bool) → length (in_lists w ps flags) ≡ length ps
lists_count w [] flags = refl
lists_count w (p ∷ ps) flags = ap suc (lists_count w ps (drop (length (requirements_of w p)) flags))

module _ (w : TextWorld) where
  own_length : (p : ProtoId) → length (map (own p) ((facts_of w).of_protocol p)) ≡ length (requirements_of w p)
  own_length p =
      length-map ((facts_of w).of_protocol p) (own p) ∙ length-map (requirements_of w p) (λ (r : PlacedRequirement). r.requirement)

  -- what is chosen of the requirements of some protocols is what is chosen of the first one, and then of the others
  pub chosen_first : (p : ProtoId) (ps : List ProtoId) (flags : List Bool) → chosen (owned_in w (p ∷ ps)) flags
      ≡ map (own p) (chosen ((facts_of w).of_protocol p) (take (length (requirements_of w p)) flags))
      ++ chosen (owned_in w ps) (drop (length (requirements_of w p)) flags)
  chosen_first p ps flags =
      let mine : List TermRequirement = (facts_of w).of_protocol p in
      chosen-append (map (own p) mine) (owned_in w ps) flags
      ∙ ap (λ (n : ℕ). chosen (map (own p) mine) (take n flags) ++ chosen (owned_in w ps) (drop n flags)) (own_length p)
      ∙ ap (λ z. z ++ chosen (owned_in w ps) (drop (length (requirements_of w p)) flags))
      (chosen_map (own p) mine (take (length (requirements_of w p)) flags))

module _ (w : TextWorld) (closed : IsClosed w) where
  abbrev f : TermFacts
  f = facts_of w

  abbrev ds : List AssociatedType
  ds = associated_types_of w

  abbrev order : List ProtoId
  order = w.lexicon.written_order

  -- ---- all requirements

  owned_has : (ps : List ProtoId) (p : ProtoId) (r : TermRequirement) → Contains ps p → Contains (f.of_protocol p) r
      → Contains (owned_in w ps) (own p r)
  owned_has [] p r c h = no_member p c
  owned_has (q ∷ ps) p r c h = elim (member_cases q p ps c) [
    | inl e ↦ Contains-append_left (map (own q) (f.of_protocol q)) (owned_in w ps) (own p r)
        (subst (λ (z : ProtoId). Contains (map (own z) (f.of_protocol z)) (own p r)) e (contains_map (own p) (f.of_protocol p) r h))
    | inr k ↦ Contains-append_right (map (own q) (f.of_protocol q)) (owned_in w ps) (own p r) (owned_has ps p r k h)
  ]

  owned_is : (ps : List ProtoId) (o : Owned) → Contains (owned_in w ps) o → Contains (f.of_protocol o.proto) o.requirement
  owned_is [] o c = no_member o c
  owned_is (q ∷ ps) o c = elim (Contains-append_cases (map (own q) (f.of_protocol q)) (owned_in w ps) o c) [
    | inl k ↦ (let r = contains_of_map (own q) (f.of_protocol q) o k in
        subst (λ (z : Owned). Contains (f.of_protocol z.proto) z.requirement) (sym r.2) r.1)
    | inr k ↦ owned_is ps o k
  ]

  pub owned_required : (o : Owned) → Contains (owned w) o → Contains (f.of_protocol o.proto) o.requirement
  owned_required o c = owned_is order o c

  in_order : (p : ProtoId) (r : TermRequirement) → Contains (f.of_protocol p) r → Contains order p
  in_order p r c = (text_law w closed).owners p r c

  own_rank : (p : ProtoId) → nat_eq p.rank p.rank ≡ true
  own_rank p = eq-eqb p.rank p.rank refl

  pub all_derivable : (p : ProtoId) (st : TermStatement) → Derivable (owned_facts ds (owned w)) (SelfOf p) st ↔ Derivable f (SelfOf p) st
  all_derivable p st = (
    (λ e. grows_with_protocols e (λ q r h. let (o, m, n, i) = owned_member (owned w) q r h in
        subst (λ (z : TermRequirement). Contains (f.of_protocol q) z) (sym i)
        (subst (λ (z : ProtoId). Contains (f.of_protocol z) o.requirement) (same_proto o.proto q n) (owned_is order o m)))),
    λ e. grows_with_protocols e (λ q r h. member_owned (owned w) q (own q r) (owned_has order q r (in_order q r h) h) (own_rank q)),
  )

  -- ---- those whose flags are set

  part_has : (ps : List ProtoId) (flags : List Bool) (k : ℕ) (p : ProtoId) (own_flags : List Bool) (r : TermRequirement)
      → slice_get ps k ≡ Some p
      → slice_get (in_lists w ps flags) k ≡ Some own_flags → Contains (chosen (f.of_protocol p) own_flags) r
      → Contains (chosen (owned_in w ps) flags) (own p r)
  part_has [] flags k p own_flags r e h c = absurd cc
  part_has (q ∷ ps) flags zero p own_flags r e h c =
      let same : q ≡ p = cc in
      let mine : take (length (requirements_of w q)) flags ≡ own_flags = cc in
      let here = chosen (f.of_protocol q) (take (length (requirements_of w q)) flags) in
      let there : Contains here r =
      subst (λ (z : ProtoId). Contains (chosen (f.of_protocol z) (take (length (requirements_of w q)) flags)) r) (sym same)
      (subst (λ z. Contains (chosen (f.of_protocol p) z) r) (sym mine) c) in
      subst (λ z. Contains z (own p r)) (sym (chosen_first w q ps flags))
      (Contains-append_left (map (own q) here) (chosen (owned_in w ps) (drop (length (requirements_of w q)) flags)) (own p r)
      (subst (λ (z : ProtoId). Contains (map (own q) here) (own z r)) same (contains_map (own q) here r there)))
  part_has (q ∷ ps) flags (suc k) p own_flags r e h c =
      subst (λ z. Contains z (own p r)) (sym (chosen_first w q ps flags))
      (Contains-append_right (map (own q) (chosen (f.of_protocol q) (take (length (requirements_of w q)) flags)))
      (chosen (owned_in w ps) (drop (length (requirements_of w q)) flags)) (own p r)
      (part_has ps (drop (length (requirements_of w q)) flags) k p own_flags r e h c))

  -- one of those that are chosen, and the flags of its protocol
  record IsInPart (ps : List ProtoId) (flags : List Bool) (o : Owned) : Type 0 where
    pub place : ℕ
    pub own_flags : List Bool
    pub proto : slice_get ps place ≡ Some o.proto
    pub flags_are : slice_get (in_lists w ps flags) place ≡ Some own_flags
    pub is_chosen : Contains (chosen (f.of_protocol o.proto) own_flags) o.requirement

  part_of : (ps : List ProtoId) (flags : List Bool) (o : Owned) → Contains (chosen (owned_in w ps) flags) o → IsInPart ps flags o
  part_of [] flags o c = no_member o c
  part_of (q ∷ ps) flags o c =
      let here = chosen (f.of_protocol q) (take (length (requirements_of w q)) flags) in
      let rest = chosen (owned_in w ps) (drop (length (requirements_of w q)) flags) in
      elim (Contains-append_cases (map (own q) here) rest o (subst (λ z. Contains z o) (chosen_first w q ps flags) c)) [
        | inl k ↦ (let r = contains_of_map (own q) here o k in record {
          place = 0;
          own_flags = take (length (requirements_of w q)) flags;
          proto = ap (λ (z : Owned). Some z.proto) (sym r.2);
          flags_are = refl;
          is_chosen = subst (λ (z : Owned).
              Contains (chosen (f.of_protocol z.proto) (take (length (requirements_of w q)) flags)) z.requirement) (sym r.2) r.1;
        })
        | inr k ↦ (let i : IsInPart ps (drop (length (requirements_of w q)) flags) o =
            part_of ps (drop (length (requirements_of w q)) flags) o k in record {
              place = suc i.place;
              own_flags = i.own_flags;
              proto = i.proto;
              flags_are = i.flags_are;
              is_chosen = i.is_chosen;
            })
      ]

  -- the flags of the protocol at a place
  flags_there : (flags : List Bool) (k : ℕ) (p : ProtoId) (own_flags : List Bool) → slice_get order k ≡ Some p
      → slice_get (flag_lists w flags) k ≡ Some own_flags → flags_of order (flag_lists w flags) p ≡ own_flags
  flags_there flags k p own_flags e h =
      flags_at order (flag_lists w flags) k p own_flags (λ i q l g. once w.lexicon closed.ids i k q p l g e) e h

  kept_less : (flags : List Bool) (p : ProtoId) (r : TermRequirement) → Contains (owned_by (family_of w flags) p) r
      → Contains ((kept_facts w (flag_lists w flags)).of_protocol p) r
  kept_less flags p r h =
      let (o, m, n, i) = owned_member (family_of w flags) p r h in
      let is : IsInPart order flags o = part_of order flags o m in
      let same : o.proto ≡ p = same_proto o.proto p n in
      let at : slice_get order is.place ≡ Some p = is.proto ∙ ap Some same in
      subst (λ z. Contains (chosen (f.of_protocol p) z) r) (sym (flags_there flags is.place p is.own_flags at is.flags_are))
      (subst (λ (z : TermRequirement). Contains (chosen (f.of_protocol p) is.own_flags) z) (sym i)
      (subst (λ (z : ProtoId). Contains (chosen (f.of_protocol z) is.own_flags) o.requirement) same is.is_chosen))

  kept_more : (flags : List Bool) (p : ProtoId) (r : TermRequirement) → Contains ((kept_facts w (flag_lists w flags)).of_protocol p) r
      → Contains (owned_by (family_of w flags) p) r
  kept_more flags p r h =
      let keep = flag_lists w flags in
      let c = in_order p r (chosen_in (f.of_protocol p) (flags_of order keep p) r h) in
      let g = contains_get order p c in
      let k : ℕ = g.0 in
      let at : slice_get order k ≡ Some p = g.1 in
      let l : k < length order = slice_get_within order k p at in
      let n : length keep ≡ length order = lists_count w order flags in
      let there : slice_get keep k ≡ Some (get_or keep k []) = slice_get-get_or keep k [] (omega (arith, l, n)) in
      member_owned (family_of w flags) p (own p r)
      (part_has order flags k p (get_or keep k []) r at there
      (subst (λ z. Contains (chosen (f.of_protocol p) z) r) (flags_there flags k p (get_or keep k []) at there) h))
      (own_rank p)

  -- the same is derivable by lists and by one list
  pub kept_derivable : (flags : List Bool) (p : ProtoId) (st : TermStatement)
      → Derivable (kept_facts w (flag_lists w flags)) (SelfOf p) st ↔ Derivable (owned_facts ds (family_of w flags)) (SelfOf p) st
  kept_derivable flags p st = ((λ e. grows_with_protocols e (kept_more flags)), λ e. grows_with_protocols e (kept_less flags))

  -- ---- well formed protocols

  -- each requirement is derivable from [τ_0_0 : P]
  pub owned_derivable : AreProtocolsWellFormed f → (o : Owned) → Contains (owned w) o
      → Derivable (owned_facts ds (owned w)) (SelfOf o.proto) (Requires o.requirement)
  owned_derivable well o c =
      let h = owned_is order o c in
      (all_derivable o.proto (Requires o.requirement)).1 (usable_derivable f o.proto o.requirement h (well o.proto o.requirement h))
