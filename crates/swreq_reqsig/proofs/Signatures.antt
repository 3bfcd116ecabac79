-- What going through the requirements leaves is a family of requirement signatures.
use Rattle.std.proofs.Common.{◌≡◌, ◌∙◌, ◌↔◌, inl, inr, refl, sym, ap, subst, ℕ, zero, suc, List, [], ◌∷◌, ◌++◌, length, map, slice_get, slice_set, Some, Contains, Bool, true, false, IsTrue, arith, ◌<◌, Option}
use Rattle.std.specs.Prelude.{not}
use Rattle.std.specs.List.{All}
use Rattle.std.proofs.lemmas.Bool.{cases_lt}
use Rattle.std.proofs.lemmas.List.{get_or_past}
use Rattle.std.proofs.lemmas.List.Elements.{All-contains, All-get_or}
use Rattle.std.proofs.lemmas.Option.{slice_get_within}
use Rattle.swreq_print.proofs.swreq_lemmas.Elements.{get_contains, there_is}
use Rattle.swreq_print.proofs.swreq_lemmas.Members.{contains_of_map, no_member}
use Rattle.swreq_valid.specs.swreq_param.declared.ids.ProtoId.{ProtoId}
use Rattle.swreq_valid.specs.swreq_param.Terms.{Term}
use Rattle.swreq_valid.specs.swreq_derive.Derivation.{AssociatedType, TermFacts, TermRequirement}
use Rattle.swreq_valid.specs.swreq_derive.Derivation.TermStatement.{Requires}
use Rattle.swreq_valid.specs.swreq_derive.Facts.{requirement_of}
use Rattle.swreq_valid.specs.swreq_derive.Kept.{Keeps, Owned}
use Rattle.swreq_valid.specs.swreq_derive.WellFormed.{AreProtocolsWellFormed}
use Rattle.swreq_valid.proofs.swreq_derive.LeftOut.{can_go}
use Rattle.swreq_valid.specs.swreq_watch.declared.events.Event.{Event}
use Rattle.swreq_valid.specs.swreq_watch.Told.{GrewBy}
use Rattle.swreq_valid.specs.swreq_complete.declared.limit.Limits.{Limits}
use Rattle.swreq_valid.specs.swreq_lowering.Heads.{IsOverSelf}
use Rattle.swreq_valid.specs.swreq_lowering.Requirements.{PlacedRequirement}
use Rattle.swreq_valid.specs.swreq_symbols.Known.{IsTextOver}
use Rattle.swreq_valid.specs.swreq_symbols.Meaning.{facts_of}
use Rattle.swreq_valid.specs.swreq_world.ByTable.{world_by}
use Rattle.swreq_valid.specs.swreq_world.Closed.{IsClosed, IsOfProtocol}
use Rattle.swreq_valid.specs.swreq_world.Worlds.{IdWorld, TextWorld, requirements_of}
use Rattle.swreq_reqsig.specs.declared.places.Place.{Place}
use Rattle.swreq_reqsig.specs.Families.{AreRequirementSignatures, DerivesWith, IsGivenFamily, associated_types_of, family_of, members, numbers, owned}
use Rattle.swreq_reqsig.specs.GoingThrough.{AreAlike, AreGiven, AreKept, IsDecided, without}
use Rattle.swreq_reqsig.specs.Places.{all_places, owned_at}
use Rattle.swreq_reqsig.specs.Told.{IsSettled, MeetsFamily}
use Rattle.swreq_valid.proofs.Flagged.{chosen_in}
use Rattle.swreq_reqsig.proofs.InLists.{members_by_numbers}
use Rattle.swreq_reqsig.proofs.Leaving.{alike_where_derivable, given_keeps, given_needed, left_before, left_length, left_one, left_same}
use Rattle.swreq_reqsig.proofs.OfWorld.{all_derivable, owned_derivable, owned_required}
use Rattle.swreq_reqsig.proofs.Placing.{owned_there, places_count}

abbrev AllOf : TextWorld → List PlacedRequirement → Type 0
AllOf w z = All (IsOfProtocol w.lexicon) z

module _ (w : TextWorld) (closed : IsClosed w) where
  abbrev f : TermFacts
  f = facts_of w

  abbrev ds : List AssociatedType
  ds = associated_types_of w

  over_self : (p : ProtoId) (r : TermRequirement) → Contains (f.of_protocol p) r → IsOverSelf r
  over_self p r c = elim (cases_lt p.rank (length w.requirements)) [
    | inl l ↦ (let q = contains_of_map (λ (z : PlacedRequirement). z.requirement) (requirements_of w p) r c in
        subst IsOverSelf (sym q.2) (All-contains (IsOfProtocol w.lexicon) (requirements_of w p) q.0
        (All-get_or (AllOf w) w.requirements p.rank [] l closed.requirements) q.1).1)
    | inr l ↦ no_member r
        (subst (λ z. Contains (map (λ (z : PlacedRequirement). z.requirement) z) r) (get_or_past w.requirements p.rank [] l) c)
  ]

  -- where one has gone through the requirements after it, it is derivable with those that are left
  left_derivable : AreProtocolsWellFormed f → (n : ℕ) (flags : List Bool) (o : Owned) → AreKept ds (owned w) n flags → Contains (owned w) o
      → DerivesWith w (family_of w flags) o.proto (Requires o.requirement)
  left_derivable well n flags o l c = (left_same ds (owned w) l o.proto (Requires o.requirement)).1 (owned_derivable w closed well o c)

  -- ---- the family

  given_signatures : AreProtocolsWellFormed f → (flags : List Bool) → AreGiven ds (owned w) flags
      → AreRequirementSignatures w (family_of w flags)
  given_signatures well flags g = record {
    over_self = λ o c. over_self o.proto o.requirement (owned_required w closed o (chosen_in (owned w) flags o c));
    same = λ p st. (
      (λ e. (all_derivable w closed p st).0 ((left_same ds (owned w) g p st).0 e)),
      λ e. (left_same ds (owned w) g p st).1 ((all_derivable w closed p st).1 e),
    );
    derived = λ o c. left_derivable well 0 flags o g (chosen_in (owned w) flags o c);
    lost = λ before after o e d. given_needed ds (owned w) flags g before after o e
        (λ p st. subst (λ z. DerivesWith w (before ++ after) p st ↔ DerivesWith w z p st) (sym e) (can_go ds before after o d p st));
  }

  pub numbered_signatures : AreProtocolsWellFormed f → (flags : List Bool) (kept : List (List ℕ)) → AreGiven ds (owned w) flags
      → kept ≡ numbers w flags
      → AreRequirementSignatures w (members w kept)
  numbered_signatures well flags kept g e =
      subst (AreRequirementSignatures w) (sym (ap (members w) e ∙ members_by_numbers w flags)) (given_signatures well flags g)

  -- ---- one requirement

  -- the same is derivable without it where it is
  pub alike_if : AreProtocolsWellFormed f → (n : ℕ) (flags : List Bool) (o : Owned) → AreKept ds (owned w) (suc n) flags
      → slice_get (owned w) n ≡ Some o
      → AreAlike ds (owned w) (without flags n) flags ↔ DerivesWith w (family_of w (without flags n)) o.proto (Requires o.requirement)
  alike_if well n flags o l at =
      alike_where_derivable ds (owned w) flags n o at l
      (left_derivable well (suc n) flags o l (get_contains (owned w) n o at))

-- ---- the family, by its numbers

pub given_kept : (w : TextWorld) (kept : List (List ℕ)) → IsGivenFamily w kept → Keeps (associated_types_of w) [] (owned w) (members w kept)
given_kept w kept (flags, given, are) =
    subst (Keeps (associated_types_of w) [] (owned w)) (sym (ap (members w) are ∙ members_by_numbers w flags))
    (given_keeps (associated_types_of w) (owned w) given)

pub given_one : (w : TextWorld) (kept others : List (List ℕ)) → IsGivenFamily w kept → IsGivenFamily w others → kept ≡ others
given_one w kept others (flags, given, are) (flags', given', are') =
    are ∙ ap (numbers w) (left_one (associated_types_of w) (owned w) given given') ∙ sym are'

-- ---- what is decided

set_twice : (flags : List Bool) (n : ℕ) → slice_set (slice_set flags n false) n false ≡ slice_set flags n false
set_twice [] n = refl
set_twice (b ∷ flags) zero = refl
set_twice (b ∷ flags) (suc n) = ap (λ z. b ∷ z) (set_twice flags n)

set_back : (flags : List Bool) (n : ℕ) → slice_get flags n ≡ Some true → slice_set (slice_set flags n false) n true ≡ flags
set_back [] n e = refl
set_back (b ∷ flags) zero e = let set : true ≡ b = cc in ap (λ z. z ∷ flags) set
set_back (b ∷ flags) (suc n) e = ap (λ z. b ∷ z) (set_back flags n e)

module _ (ds : List AssociatedType) (all : List Owned) (n : ℕ) (flags : List Bool) (there : slice_get flags n ≡ Some true) where
  decided_by : (b : Bool) → IsTrue b ↔ AreAlike ds all (without flags n) flags
      → IsDecided ds all n flags (slice_set (slice_set flags n false) n (not b))
  decided_by true d = inl (d.0 refl, set_twice flags n)
  decided_by false d = inr ((λ a. let z = d.1 a in cc), set_back flags n there)

-- what stands at a place
pub place_there : (w : IdWorld) (places : List Place) (n : ℕ) → places ≡ all_places w → n < length places
    → (x : Place) × (slice_get places n ≡ Some x) × (slice_get (all_places w) n ≡ Some x)
place_there w places n e l = let (x, at) = there_is places n l in (x, at, ap (λ (z : List Place). slice_get z n) (sym e) ∙ at)

-- one requirement, as the code decides on it
module _ (w : IdWorld) (terms : List Term) (text : IsTextOver terms w) (limits : Limits) (n : ℕ) (flags : List Bool) (x : Place)
    (at : slice_get (all_places w) n ≡ Some x)
    (left : AreKept (associated_types_of (world_by terms w)) (owned (world_by terms w)) (suc n) flags) where
  abbrev W : TextWorld
  W = world_by terms w

  -- there is a flag for each requirement
  pub flags_count : length flags ≡ length (all_places w)
  flags_count = left_length (associated_types_of W) (owned W) left ∙ sym (places_count w terms)

  pub flag_within : n < length flags
  flag_within = let e = flags_count in let l = slice_get_within (all_places w) n x at in omega (arith, e, l)

  pub met_by : AreProtocolsWellFormed (facts_of W) → (others : List Bool) (b : Bool) → others ≡ without flags n
      → IsTrue b ↔ DerivesWith W (family_of W others) x.proto (Requires (requirement_of terms x.requirement))
      → (old new : Option (List Event)) → (part : List Event) × IsSettled limits W n others part × GrewBy old new part
      → (part : List Event) × MeetsFamily limits W n flags (slice_set (slice_set flags n false) n (not b)) part × GrewBy old new part
  met_by well others b e d old new (part, settled, grew) =
      let law = alike_if W text.closed well n flags (owned_at terms x) left (owned_there w terms n x at) in
      let here =
      subst (λ (z : List Bool). IsTrue b ↔ DerivesWith W (family_of W z) x.proto (Requires (requirement_of terms x.requirement))) e d in (
        part,
        record {
          settled = subst (λ (z : List Bool). IsSettled limits W n z part) e settled;
          decided = decided_by (associated_types_of W) (owned W) n flags
              (left_before (associated_types_of W) (owned W) left n (omega arith)) b
              ((λ t. law.1 (here.0 t)), λ a. here.1 (law.0 a));
        },
        grew,
      )
