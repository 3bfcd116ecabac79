-- Whether a requirement follows from the others, asked by reach.
use Rattle.std.proofs.Common.{◌≡◌, ◌∙◌, ◌↔◌, ◌<◌, ◌+◌, ap, arith, inl, inr, sym, subst, ℕ, Bool, false, IfOk, IsTrue, List, length, map, slice_get, OnOk, Option, Result, Some, Ok, true}
use Rattle.std.proofs.lemmas.Option.{get_or_from_slice_get, same_Some}
use Rattle.swreq_print.proofs.swreq_lemmas.Elements.{get_contains, get_of_map, there_is}
use Rattle.std.proofs.lemmas.Result.{IfOk-weaker}
use Rattle.swreq_valid.specs.swreq_param.declared.ids.NameId.{NameId}
use Rattle.swreq_valid.specs.swreq_param.declared.ids.ProtoId.{ProtoId}
use Rattle.swreq_valid.specs.swreq_param.declared.ids.Step.TheVariants.{Bound, Name}
use Rattle.swreq_valid.specs.swreq_param.declared.ids.TermId.{TermId}
use Rattle.swreq_valid.specs.swreq_param.Tables.{term_at}
use Rattle.swreq_valid.specs.swreq_param.Terms.{Term}
use Rattle.swreq_valid.specs.swreq_param.Terms.Term.{Generic, Member}
use Rattle.swreq_valid.specs.swreq_derive.declared.requirements.Requirement.{Requirement}
use Rattle.swreq_valid.specs.swreq_derive.declared.requirements.Requirement.TheVariants.{Conf}
use Rattle.swreq_valid.specs.swreq_derive.Derivation.{AssociatedType, Derivable, TermRequirement}
use Rattle.swreq_valid.specs.swreq_derive.Derivation.Source.{SelfOf}
use Rattle.swreq_valid.specs.swreq_derive.Derivation.TermRequirement.{Conforms, IsAnyObject, Equals}
use Rattle.swreq_valid.specs.swreq_derive.Derivation.TermStatement.{Requires}
use Rattle.swreq_valid.specs.swreq_derive.Facts.{requirement_of}
use Rattle.swreq_valid.specs.swreq_derive.Kept.{Owned, owned_facts}
use Rattle.swreq_print.specs.swreq_rule.declared.rules.Rule.{Rule}
use Rattle.swreq_valid.specs.swreq_watch.declared.events.Event.{Event}
use Rattle.swreq_valid.specs.swreq_watch.Told.{GrewBy}
use Rattle.swreq_valid.specs.swreq_complete.declared.limit.Limits.{Limits}
use Rattle.swreq_valid.specs.swreq_complete.declared.limit.Failed.{Failed}
use Rattle.swreq_valid.specs.swreq_lexicon.declared.pair.ProtocolName.{ProtocolName}
use Rattle.swreq_valid.specs.swreq_lexicon.Views.{IsProtocol}
use Rattle.swreq_valid.specs.swreq_symbols.Known.{IsRequirementIn, IsTextOver}
use Rattle.swreq_valid.specs.swreq_symbols.Meaning.{associated_at}
use Rattle.swreq_valid.specs.swreq_world.Closed.{IsRequirementOf, IsTermOf}
use Rattle.swreq_valid.specs.Answers.{Answers}
use Rattle.swreq_valid.specs.Flags.{chosen}
use Rattle.swreq_valid.specs.swreq_world.ByTable.{world_by}
use Rattle.swreq_valid.specs.swreq_world.Worlds.{IdWorld, TextWorld}
use Rattle.swreq_reqsig.specs.declared.places.Place.{Place}
use Rattle.swreq_reqsig.specs.Families.{DerivesWith, associated_types_of, family_of, family_plan, owned}
use Rattle.swreq_reqsig.specs.Marks.{HasRanksBelow, HaveRanksBelow, IsMarked, TellReached, kept_at, marked}
use Rattle.swreq_reqsig.specs.Places.{all_places, owned_at}
use Rattle.swreq_reqsig.specs.declared.outlines.Outline.{Outline}
use Rattle.swreq_reqsig.specs.Named.{HasLists, HaveLists, list_of}
use Rattle.swreq_reqsig.specs.Outlines.{HaveProtocolsBelow, outline_in, outline_of, outlines_of}
use Rattle.swreq_reqsig.specs.Asked.{AreAsked, IsBeyond, IsOutOfReach}
use Rattle.swreq_reqsig.specs.Reaching.{AreReachedFlags, IsReachedPart}
use Rattle.swreq_reqsig.specs.Saying.{IsUnsaid, last_name}
use Rattle.swreq_reqsig.specs.Told.{IsSettled}
use Rattle.swreq_reqsig.specs.Told.IsSettled.{by_rounds}
use Rattle.swreq_reqsig.proofs.ByReach.{conforms_by_reach, derives_by_reach, flags_give_part}
use Rattle.swreq_reqsig.proofs.Passing.{conf_of, marked_reached}
use Rattle.swreq_reqsig.proofs.Spoken.{conformance_of}
use Rattle.swreq_reqsig.proofs.Unsaid.{unsaid_not_derivable}
use Rattle.swreq_reqsig.proofs.Placing.{owned_there, place_is, place_known, places_count, places_owned}

module _ (w : IdWorld) (terms : List Term) (text : IsTextOver terms w) where
  abbrev W : TextWorld
  W = world_by terms w

  abbrev ds : List AssociatedType
  ds = associated_types_of W

  -- ---- ranks

  rank_below : (x : Place) → IsRequirementIn terms w.lexicon x.requirement → (t : TermId) (q : ProtoId) → x.requirement ≡ Conf t q
      → IsProtocol w.lexicon q
  rank_below x known t q e = let k = subst (λ (r : Requirement). IsRequirementIn terms w.lexicon r) e known in k.1.1

  pub ranks_below : (places : List Place) → places ≡ all_places w → (protocols : ℕ) → protocols ≡ length w.lexicon.protocols
      → HaveRanksBelow protocols places
  ranks_below places e protocols n k x at =
      let is = place_is w text.closed.ids k x (ap (λ z. slice_get z k) (sym e) ∙ at) in
      subst (λ (bound : ℕ). HasRanksBelow bound x) (sym n) (record {
        own = is.proto;
        other = λ t q says. rank_below x (place_known w terms text x is) t q says;
      })

  -- ---- outlines

  -- a requirement at its place
  requirement_there : (k : ℕ) (outline : Outline) → slice_get (outlines_of w.lexicon (owned W)) k ≡ Some outline
      → (x : Place) × IsRequirementIn terms w.lexicon x.requirement
      × (outline_in w.lexicon x.proto (requirement_of terms x.requirement) ≡ outline)
  requirement_there k outline at =
      let (o, there, same) = get_of_map (outline_of w.lexicon) (owned W) k outline at in
      let (x, placed, is) = get_of_map (owned_at terms) (all_places w) k o (ap (λ z. slice_get z k) (places_owned w terms) ∙ there) in (
        x,
        place_known w terms text x (place_is w text.closed.ids k x placed),
        ap (outline_of w.lexicon) is ∙ same,
      )

  pub protocols_below : HaveProtocolsBelow (length w.lexicon.protocols) (outlines_of w.lexicon (owned W))
  protocols_below k outline at b q is =
      let (x, known, same) = requirement_there k outline at in
      let (t, says, named) = conformance_of w.lexicon b x.proto (requirement_of terms x.requirement) q (same ∙ is) in
      let r = conf_of terms x.requirement t q says in
      rank_below x known r.0 q r.1

  name_below : (t : Term) → IsTermOf w.lexicon t → list_of (last_name w.lexicon t) < length w.lexicon.names + 1
  name_below (Generic g) h = omega arith
  name_below (Member t (Name a)) h = let l = h.1 in omega (arith, l)
  name_below (Member t (Bound d)) h =
      let (e, there) = there_is w.lexicon.associated d.rank h.1 in
      let is : associated_at w.lexicon d ≡ e = get_or_from_slice_get w.lexicon.associated d.rank e _ there in
      let named = (text.closed.ids.associated e (get_contains w.lexicon.associated d.rank e there)).1 in
      let rank = ap (λ (z : ProtocolName). z.name.rank) is in omega (arith, named, rank)

  names_in : (r : TermRequirement) (p : ProtoId) → IsRequirementOf w.lexicon r
      → HasLists (length w.lexicon.names + 1) (outline_in w.lexicon p r)
  names_in (Conforms t q) p h a is = subst (λ (z : Option NameId). list_of z < length w.lexicon.names + 1) is (name_below t h.0)
  names_in (IsAnyObject t) p h a is = subst (λ (z : Option NameId). list_of z < length w.lexicon.names + 1) is (name_below t h)
  names_in (Equals t u) p h a is = elim is [
    | inl e ↦ subst (λ (z : Option NameId). list_of z < length w.lexicon.names + 1) e (name_below t h.0)
    | inr e ↦ subst (λ (z : Option NameId). list_of z < length w.lexicon.names + 1) e (name_below u h.1)
  ]

  pub names_below : HaveLists (length w.lexicon.names + 1) (outlines_of w.lexicon (owned W))
  names_below k outline at =
      let (x, known, same) = requirement_there k outline at in
      subst (HasLists (length w.lexicon.names + 1)) same (names_in (requirement_of terms x.requirement) x.proto known.1)

  -- ---- what is asked

  -- the requirements at the places whose flags are set are the family
  pub kept_family : (places : List Place) (flags : List Bool) → places ≡ all_places w → kept_at terms places flags ≡ family_of W flags
  kept_family places flags e =
      ap (λ (z : List Place). chosen (map (owned_at terms) z) flags) e ∙ ap (λ (z : List Owned). chosen z flags) (places_owned w terms)

  module _ (places : List Place) (flags : List Bool) (at : ℕ) (x : Place) (are : places ≡ all_places w)
      (there : slice_get places at ≡ Some x) where
    stands : slice_get (owned W) at ≡ Some (owned_at terms x)
    stands = owned_there w terms at x (ap (λ z. slice_get z at) (sym are) ∙ there)

    told : (marks : List Bool) → TellReached (kept_at terms places flags) x.proto marks → TellReached (family_of W flags) x.proto marks
    told marks tell = subst (λ (z : List Owned). TellReached z x.proto marks) (kept_family places flags are) tell

    pub is_unsaid : IsUnsaid w.lexicon (family_of W flags) x.proto (requirement_of terms x.requirement) → IsBeyond W at flags
    is_unsaid unsaid = record { requirement = owned_at terms x; stands = stands; follows_not = inl unsaid }

    pub is_beyond : (marks : List Bool) → TellReached (kept_at terms places flags) x.proto marks
        → (t : TermId) × (q : ProtoId) × (x.requirement ≡ Conf t q) × (IsMarked marks q → ⊥) → IsBeyond W at flags
    is_beyond marks tell (t, q, says, unmarked) = record {
      requirement = owned_at terms x;
      stands = stands;
      follows_not = inr (record {
        subject = term_at terms t;
        proto = q;
        says = ap (requirement_of terms) says;
        unreached = λ r. unmarked ((told marks tell q).1 r);
      });
    }

    pub are_asked : (IsUnsaid w.lexicon (family_of W flags) x.proto (requirement_of terms x.requirement) → ⊥)
        → (marks asked : List Bool) → TellReached (kept_at terms places flags) x.proto marks → length flags ≡ length places
        → ((t : TermId) (q : ProtoId) → x.requirement ≡ Conf t q → IsMarked marks q) → asked ≡ marked places flags marks
        → AreAsked W at flags asked
    are_asked said marks asked tell l within e = record {
      requirement = owned_at terms x;
      stands = stands;
      said = said;
      within = λ u q says. let r = conf_of terms x.requirement u q says in (told marks tell q).0 (within r.0 q r.1);
      reached = subst (λ (z : List Bool). AreReachedFlags (owned W) flags x.proto z) (sym e)
          (subst (λ (all : List Owned). AreReachedFlags all flags x.proto (marked places flags marks))
          (ap (map (owned_at terms)) are ∙ places_owned w terms) (marked_reached terms places flags marks x.proto l tell));
    }

  pub asked_count : (at : ℕ) (flags asked : List Bool) → AreAsked W at flags asked → length asked ≡ length (all_places w)
  asked_count at flags asked are = are.reached.count ∙ sym (places_count w terms)

  -- ---- whether it follows

  module _ (flags : List Bool) (at : ℕ) (x : Place) (there : slice_get (all_places w) at ≡ Some x) where
    abbrev Follows : Type 0
    Follows = DerivesWith W (family_of W flags) x.proto (Requires (requirement_of terms x.requirement))

    here : (o : Owned) → slice_get (owned W) at ≡ Some o → o ≡ owned_at terms x
    here o e = same_Some _ _ (sym e ∙ owned_there w terms at x there)

    not_out_of_reach : IsOutOfReach (family_of W flags) (owned_at terms x) → Follows → ⊥
    not_out_of_reach out e =
        out.unreached (conforms_by_reach ds (family_of W flags) x.proto out.proto out.subject
        (subst (λ (r : TermRequirement). Derivable (owned_facts ds (family_of W flags)) (SelfOf x.proto) (Requires r)) out.says e))

    beyond : IsBeyond W at flags → Follows → ⊥
    beyond is e =
        let same = here is.requirement is.stands in
        elim is.follows_not [
          | inl unsaid ↦ unsaid_not_derivable w.lexicon (family_of W flags) x.proto (requirement_of terms x.requirement)
              (subst (λ (o : Owned). IsUnsaid w.lexicon (family_of W flags) o.proto o.requirement) same unsaid) e
          | inr out ↦ not_out_of_reach (subst (λ (o : Owned). IsOutOfReach (family_of W flags) o) same out) e
        ]

    pub follows_not : IsBeyond W at flags → IsTrue false ↔ Follows
    follows_not is = ((λ t. absurd (let z : false ≡ true = t in cc)), λ e. absurd (beyond is e))

    pub follows_asked : (asked : List Bool) → AreAsked W at flags asked → (b : Bool)
        → IsTrue b ↔ Derivable (owned_facts ds (family_of W asked)) (SelfOf x.proto) (Requires (requirement_of terms x.requirement))
        → IsTrue b ↔ Follows
    follows_asked asked are b d =
        let reached : AreReachedFlags (owned W) flags x.proto asked =
        subst (λ (o : Owned). AreReachedFlags (owned W) flags o.proto asked) (here are.requirement are.stands) are.reached in
        let part : IsReachedPart (family_of W flags) x.proto (family_of W asked) = flags_give_part (owned W) flags asked x.proto reached in
        let law =
        derives_by_reach ds (family_of W flags) (family_of W asked) x.proto part (Requires (requirement_of terms x.requirement)) in
        ((λ t. law.1 (d.0 t)), λ e. d.1 (law.0 e))

  pub asks_answer : (places : List Place) (flags : List Bool) (at : ℕ) → places ≡ all_places w → (y : Place) → slice_get places at ≡ Some y
      → (asked here : List Bool) → here ≡ asked → AreAsked W at flags asked → (r : Result Bool Failed)
      → IfOk r (λ b. IsTrue b
      ↔ Derivable (owned_facts ds (family_of W here)) (SelfOf y.proto) (Requires (requirement_of terms y.requirement)))
      → IfOk r (λ b. (x : Place) → slice_get places at ≡ Some x → IsTrue b
      ↔ DerivesWith W (family_of W flags) x.proto (Requires (requirement_of terms x.requirement)))
  asks_answer places flags at e y there asked here i are r h =
      IfOk-weaker r _ _ (λ b d x k.
      subst (λ (z : Place). IsTrue b ↔ DerivesWith W (family_of W flags) z.proto (Requires (requirement_of terms z.requirement)))
      (same_Some y x (sym there ∙ k))
      (follows_asked flags at y (ap (λ (z : List Place). slice_get z at) (sym e) ∙ there) asked are b
      (subst (λ (z : List Bool). IsTrue b
      ↔ Derivable (owned_facts ds (family_of W z)) (SelfOf y.proto) (Requires (requirement_of terms y.requirement))) i d))) h

-- ---- what is told

module _ (limits : Limits) (w : TextWorld) (at : ℕ) (flags : List Bool) where
  module _ (asked : List Bool) (are : AreAsked w at flags asked) (old new : Option (List Event)) where
    settles_asked : (rules : List Rule) × Answers limits (family_plan w asked) old new (Ok rules)
        → (part : List Event) × IsSettled limits w at flags part × GrewBy old new part
    settles_asked (rules, (told, ends, grew)) = (told, by_rounds {asked = asked} {rules = rules} are ends, grew)

    pub asks_settle : (here : List Bool) → here ≡ asked → (r : Result Bool Failed)
        → IfOk r (λ b. (rules : List Rule) × Answers limits (family_plan w here) old new (Ok rules))
        → OnOk r ((part : List Event) × IsSettled limits w at flags part × GrewBy old new part)
    asks_settle here e r h =
        IfOk-weaker r _ _ (λ b k. settles_asked
        (subst (λ (z : List Bool). (rules : List Rule) × Answers limits (family_plan w z) old new (Ok rules)) e k)) h
