-- Where it is written in a protocol that `Self` conforms to another, and no name is refused, the protocol inherits the other directly.
use Rattle.std.proofs.Common.{◌≡◌, ℕ, Bool, true, false, cond, ◌&&◌, ⊎_elim, List, [], ◌∷◌, ◌++◌, Option, Some, None, length, get_or, map, Contains, refl, sym, ap, subst, ◌∙◌}
use Rattle.std.specs.List.{All, flat_map}
use Rattle.std.specs.Option.{option_to_list}
use Rattle.std.specs.Str.{bytes_eq}
use Rattle.std.proofs.lemmas.List.Elements.{All-contains, Contains-append_cases, Contains-append_left, Contains-append_right}
use Rattle.swreq_param.proofs.swreq_lemmas.Members.{first_member, member_cases, no_member, only_member}
use Rattle.swreq_param.specs.declared.ids.ProtoId.{ProtoId}
use Rattle.swreq_param.specs.declared.ids.Step.{Step}
use Rattle.swreq_param.specs.Terms.{Term, self, with_steps}
use Rattle.swreq_param.specs.Terms.Term.{Member}
use Rattle.swreq_lexicon.specs.swreq_decl.declared.skeleton.AssocDecl.{AssocDecl}
use Rattle.swreq_lexicon.specs.swreq_decl.declared.skeleton.Entity.{Entity}
use Rattle.swreq_lexicon.specs.swreq_decl.declared.skeleton.ProtocolDecl.{ProtocolDecl}
use Rattle.swreq_lexicon.specs.swreq_decl.declared.skeleton.ReqDecl.{ReqDecl}
use Rattle.swreq_lexicon.specs.swreq_decl.declared.skeleton.ReqDecl.TheVariants.{Bound, Same}
use Rattle.swreq_lexicon.specs.swreq_decl.declared.skeleton.Span.{Span}
use Rattle.swreq_lexicon.specs.swreq_decl.declared.skeleton.StepDecl.{StepDecl}
use Rattle.swreq_lexicon.specs.swreq_decl.declared.skeleton.TypeDecl.{TypeDecl}
use Rattle.swreq_lexicon.specs.swreq_derive.Derivation.TermRequirement.{Conforms, IsAnyObject, Equals}
use Rattle.swreq_lexicon.specs.swreq_names.declared.directory.Declaration.{Declaration}
use Rattle.swreq_lexicon.specs.swreq_names.Inheritance.{direct, is_bare, named_by, named_in}
use Rattle.swreq_lexicon.specs.swreq_names.Walk.{inherited_in, inherited_in_clause}
use Rattle.swreq_lexicon.proofs.swreq_names.Walked.{same_direct}
use Rattle.swreq_lexicon.specs.swreq_names.Spaces.{self_bytes, Spaces, protocol_of, word}
use Rattle.swreq_resolve.specs.declared.refusal.Fault.TheVariants.{NotAProtocol}
use Rattle.swreq_resolve.specs.Refusals.{begins_in_protocol, duplicates, of_entity, of_member, of_members, of_named, of_primaries, of_protocol_name, of_requirement, of_type}
use Rattle.swreq_resolve.specs.Refusals as refusals
use Rattle.swreq_lexicon.specs.swreq_rank.Ranks.{Bytes}
use Rattle.swreq_lexicon.proofs.Declared.{from_pieces, in_pieces}
use Rattle.swreq_lowering.specs.declared.context.Context.TheVariants.{Protocol}
use Rattle.swreq_lowering.specs.Requirements.{PlacedRequirement, argument, arguments, bound_of, equality, in_bound, in_bounds, in_protocol, of_one_side}
use Rattle.swreq_lowering.specs.Walk.{in_clause, in_member, in_members, in_requirement}
use Rattle.swreq_lowering.proofs.Walked.{protocol_walked}
use Rattle.swreq_lowering.specs.Types.{member_named, step_of, type_in}
use Rattle.swreq_lowering.specs.Words.{WordsView, primaries_named, proto_of}
use Rattle.swreq_world.proofs.Everywhere.{all_left, all_right, each_piece}
use Rattle.swreq_world.proofs.Resolving.{Never, refused}

-- ---- the bare `Self`

longer : (steps : List Step) (t : Term) (s : Step) → with_steps (Member t s) steps ≡ self → ⊥
longer [] t s e = absurd cc
longer (x ∷ xs) t s e = longer xs (Member t s) x e

bare_self : (w : WordsView) (t : TypeDecl) → type_in w Protocol t ≡ self
    → (bytes_eq self_bytes (word w.text t.head) && is_bare t.steps) ≡ true
bare_self w t e = by (bytes_eq self_bytes (word w.text t.head)) t.steps e
  where
    by : (b : Bool) (steps : List StepDecl) → with_steps (cond b self (member_named w self t.head)) (map (step_of w) steps) ≡ self
        → (b && is_bare steps) ≡ true
    by true [] h = refl
    by false [] h = absurd cc
    by b (s ∷ ss) h = absurd (longer (map (step_of w) ss) (cond b self (member_named w self t.head)) (step_of w s) h)

module _ (w : WordsView) (q : ProtoId) where
  -- The requirement is that `Self` conforms to the protocol.
  abbrev Says : PlacedRequirement → Type 0
  Says r = r.requirement ≡ Conforms self q

  -- ---- one bound

  not_an_equality : (t u : Term) → Equals t u ≡ Conforms self q → ⊥
  not_an_equality t u e = absurd cc

  no_argument : (t : Term) (at : ℕ) (names : List Span) (us : List TypeDecl) (r : PlacedRequirement)
      → Contains (arguments w Protocol t at names us) r → Says r → ⊥
  no_argument t at [] us r c e = no_member r c
  no_argument t at (a ∷ names) [] r c e = no_member r c
  no_argument t at (a ∷ names) (u ∷ us) r c e =
      ⊎_elim (λ same.
      not_an_equality (member_named w t a) (type_in w Protocol u) (sym (ap (λ (p : PlacedRequirement). p.requirement) same) ∙ e))
      (λ k. no_argument t at names us r k e) (member_cases (argument w Protocol t at a u) r (arguments w Protocol t at names us) c)

  said_by : (t : Term) (at : ℕ) (e : Entity) (r : PlacedRequirement) → Contains (in_bound w Protocol t at e) r → Says r
      → bound_of w t e ≡ Conforms self q
  said_by t at e r c says =
      let more = arguments w Protocol t e.span.start (primaries_named w e.span) e.args in
      ⊎_elim (λ same. sym (ap (λ (p : PlacedRequirement). p.requirement) same) ∙ says)
      (λ k. absurd (no_argument t e.span.start (primaries_named w e.span) e.args r k says))
      (member_cases (of_one_side (bound_of w t e) at) r more c)

  -- the bound of a conformance of `Self`
  record IsBound (t : Term) (e : Entity) : Type 0 where
    protocol : e.layout ≡ false
    subject : t ≡ self
    named : proto_of w e.span ≡ q

  is_bound : (t : Term) (e : Entity) → bound_of w t e ≡ Conforms self q → IsBound t e
  is_bound t e says = by e.layout refl says
    where
      subject_is : Conforms t (proto_of w e.span) ≡ Conforms self q → t ≡ self
      subject_is h = cc

      named_is : Conforms t (proto_of w e.span) ≡ Conforms self q → proto_of w e.span ≡ q
      named_is h = cc

      by : (b : Bool) → e.layout ≡ b → cond b (IsAnyObject t) (Conforms t (proto_of w e.span)) ≡ Conforms self q → IsBound t e
      by true l h = absurd cc
      by false l h = record { protocol = l; subject = subject_is h; named = named_is h }

  module _ (d : Spaces) where
    -- One of the places is that of the protocol, by a name that refers to it.
    pub record Inherits (places : List ℕ) : Type 0 where
      pub name : Span
      pub place : ℕ
      pub refers : protocol_of d (word w.text name) ≡ Some place
      pub among : Contains places place
      pub is : proto_of w name ≡ q

    more : (ps qs : List ℕ) → ((i : ℕ) → Contains ps i → Contains qs i) → Inherits ps → Inherits qs
    more ps qs to i = record { name = i.name; place = i.place; refers = i.refers; among = to i.place i.among; is = i.is }

    bound_inherits : (t : Term) (e : Entity) → All Never (of_named w.text d e) → IsBound t e
        → Inherits (option_to_list (named_by w.text d e))
    bound_inherits t e none bound =
        by (protocol_of d (word w.text e.span)) refl
        (subst (λ b. All Never (cond b [] (of_protocol_name d e.span (length e.args) (protocol_of d (word w.text e.span))))) bound.protocol
        none)
      where
        by : (o : Option ℕ) → protocol_of d (word w.text e.span) ≡ o
            → All Never (of_protocol_name d e.span (length e.args) (protocol_of d (word w.text e.span)))
            → Inherits (option_to_list (named_by w.text d e))
        by None n h = absurd (refused NotAProtocol e.span.start (subst (λ o. All Never (of_protocol_name d e.span (length e.args) o)) n h))
        by (Some i) n h =
            let is : named_by w.text d e ≡ Some i = (λ k. cond (bound.protocol k) None (n k)) in
            record {
              name = e.span;
              place = i;
              refers = n;
              among = subst (λ o. Contains (option_to_list o) i) (sym is) (first_member i []);
              is = bound.named;
            }

    module _ (begins : Bytes → Bool) where
      abbrev IsMeant : Entity → Type 0
      IsMeant e = All Never (of_entity w.text d begins e)

      named_of : (e : Entity) → IsMeant e → All Never (of_named w.text d e)
      named_of e h = all_left Never (of_named w.text d e) (flat_map (of_type w.text d begins) e.args) h

      -- ---- bounds

      -- Bounds say so of `Self` alone.
      bounds_inherit : (t : Term) (at : ℕ) (es : List Entity) → All Never (flat_map (of_entity w.text d begins) es)
          → (r : PlacedRequirement) → Contains (in_bounds w Protocol t at es) r → Says r → (t ≡ self) × Inherits (named_in w.text d es)
      bounds_inherit t at es none r c says =
          let (e, m, k) = from_pieces (in_bound w Protocol t at) es r c in
          let bound = is_bound t e (said_by t at e r k says) in
          let meant = All-contains IsMeant es e (each_piece Never (of_entity w.text d begins) es none) m in (
            bound.subject,
            more (option_to_list (named_by w.text d e)) (named_in w.text d es)
                (λ i. in_pieces (λ (e : Entity). option_to_list (named_by w.text d e)) es e i m)
                (bound_inherits t e (named_of e meant) bound),
          )

      -- ---- clauses

      requirement_inherits : (t : ReqDecl) → All Never (of_requirement w.text d begins t)
          → (r : PlacedRequirement) → Contains (in_requirement w Protocol t) r → Says r → Inherits (inherited_in w.text d t)
      requirement_inherits (Bound t bounds) none r c says =
          let meant = all_right Never (of_type w.text d begins t) (flat_map (of_entity w.text d begins) bounds) none in
          let b = bounds_inherit (type_in w Protocol t) t.head.start bounds meant r c says in
          subst (λ b. Inherits (cond b (named_in w.text d bounds) [])) (sym (bare_self w t b.0)) b.1
      requirement_inherits (Same t u) none r c says =
          let same = only_member (equality (type_in w Protocol t) t.head.start (type_in w Protocol u) u.head.start) r c in
          absurd (not_an_equality (type_in w Protocol t) (type_in w Protocol u)
          (sym (ap (λ (p : PlacedRequirement). p.requirement) same) ∙ says))

      clause_inherits : (clause : List ReqDecl) → All Never (flat_map (of_requirement w.text d begins) clause)
          → (r : PlacedRequirement) → Contains (in_clause w Protocol clause) r → Says r → Inherits (inherited_in_clause w.text d clause)
      clause_inherits clause none r c says =
          let (t, m, k) = from_pieces (in_requirement w Protocol) clause r c in
          let meant = All-contains (λ t. All Never (of_requirement w.text d begins t)) clause t
          (each_piece Never (of_requirement w.text d begins) clause none) m in
          more (inherited_in w.text d t) (inherited_in_clause w.text d clause) (λ i. in_pieces (inherited_in w.text d) clause t i m)
          (requirement_inherits t meant r k says)

      -- ---- associated types

      member_inherits : (m : AssocDecl) → All Never (of_member w.text d begins m)
          → (r : PlacedRequirement) → Contains (in_member w m) r → Says r → Inherits (inherited_in_clause w.text d m.clause)
      member_inherits m none r c says =
          let of_inherits = flat_map (of_entity w.text d begins) m.inherits in
          let of_clause = flat_map (of_requirement w.text d begins) m.clause in
          let own = member_named w self m.name in
          ⊎_elim (λ k.
          absurd (not_self (bounds_inherit own m.name.start m.inherits (all_left Never of_inherits of_clause none) r k says).0))
          (λ k. clause_inherits m.clause (all_right Never of_inherits of_clause none) r k says)
          (Contains-append_cases (in_bounds w Protocol own m.name.start m.inherits) (in_clause w Protocol m.clause) r c)
        where
          not_self : member_named w self m.name ≡ self → ⊥
          not_self e = absurd cc

      members_inherit : (ms : List AssocDecl) → All Never (flat_map (of_member w.text d begins) ms)
          → (r : PlacedRequirement) → Contains (in_members w ms) r → Says r
          → Inherits (flat_map (λ (m : AssocDecl). inherited_in_clause w.text d m.clause) ms)
      members_inherit ms none r c says =
          let (m, k, l) = from_pieces (in_member w) ms r c in
          let meant =
          All-contains (λ m. All Never (of_member w.text d begins m)) ms m (each_piece Never (of_member w.text d begins) ms none) k in
          let clause_of = λ (m : AssocDecl). inherited_in_clause w.text d m.clause in
          more (clause_of m) (flat_map clause_of ms) (λ i. in_pieces clause_of ms m i k) (member_inherits m meant r l says)

    -- ---- protocols

    pub inherits_directly : (inherits : ℕ → ℕ → Bool) (i : ℕ) (p : ProtocolDecl) → All Never (refusals.of_protocol w.text d inherits i p)
        → (r : PlacedRequirement) → Contains (in_protocol w p) r → Says r → Inherits (direct w.text d p)
    inherits_directly inherits i p none r c says =
        let begins = begins_in_protocol d inherits i in
        let members : List Declaration = get_or d.members i [] in
        let of_inherits = flat_map (of_entity w.text d begins) p.inherits in
        let of_clause = flat_map (of_requirement w.text d begins) p.clause in
        let of_each = flat_map (of_member w.text d begins) p.members in
        let some =
        all_right Never (of_primaries d inherits i) (of_inherits ++ (of_clause ++ (duplicates members members ++ of_each))) none in
        let rest = all_right Never of_inherits (of_clause ++ (duplicates members members ++ of_each)) some in
        let last = all_right Never of_clause (duplicates members members ++ of_each) rest in
        let head = named_in w.text d p.inherits in
        let clause = inherited_in_clause w.text d p.clause in
        let each = flat_map (λ (m : AssocDecl). inherited_in_clause w.text d m.clause) p.members in
        subst Inherits (same_direct w.text d p)
        (⊎_elim (λ k. more head (head ++ (clause ++ each)) (Contains-append_left head (clause ++ each))
        (bounds_inherit begins self p.name.start p.inherits
        (all_left Never of_inherits (of_clause ++ (duplicates members members ++ of_each)) some) r k says).1)
        (λ k. more (clause ++ each) (head ++ (clause ++ each)) (Contains-append_right head (clause ++ each))
        (⊎_elim (λ l. more clause (clause ++ each) (Contains-append_left clause each)
        (clause_inherits begins p.clause (all_left Never of_clause (duplicates members members ++ of_each) rest) r l says))
        (λ l. more each (clause ++ each) (Contains-append_right clause each)
        (members_inherit begins p.members (all_right Never (duplicates members members) of_each last) r l says))
        (Contains-append_cases (in_clause w Protocol p.clause) (in_members w p.members) r k)))
        (Contains-append_cases (in_bounds w Protocol self p.name.start p.inherits) (in_clause w Protocol p.clause ++ in_members w p.members)
        r (subst (λ (rs : List PlacedRequirement). Contains rs r) (protocol_walked w p) c)))
