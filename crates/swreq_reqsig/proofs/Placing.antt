-- The requirements of all protocols in one list, as the code keeps them.
use Rattle.std.proofs.Common.{◌≡◌, ◌∙◌, inl, inr, refl, sym, ap, ap₂, subst, ℕ, suc, ◌≤◌, ◌+◌, arith, List, [], ◌∷◌, ◌++◌, length, map, drop, slice_get, Some, Contains, append_assoc}
use Rattle.std.specs.Option.{option_map}
use Rattle.std.proofs.lemmas.List.{append-nil, drop_all, length-map, map-append}
use Rattle.std.proofs.lemmas.List.Elements.{Contains-append_cases}
use Rattle.std.proofs.lemmas.Option.{slice_get-map}
use Rattle.swreq_valid.specs.swreq_param.declared.ids.ProtoId.{ProtoId}
use Rattle.swreq_valid.specs.swreq_param.Terms.{Term}
use Rattle.swreq_valid.specs.swreq_derive.declared.requirements.Requirement.{Requirement}
use Rattle.swreq_valid.specs.swreq_derive.Facts.{requirement_of}
use Rattle.swreq_print.proofs.swreq_lemmas.Members.{contains_of_map, first_member, later_member, member_cases, no_member}
use Rattle.swreq_print.proofs.swreq_lemmas.Elements.{get_contains}
use Rattle.swreq_valid.specs.swreq_symbols.Known.{IsRequirementIn, IsTextOver}
use Rattle.swreq_valid.specs.swreq_lowering.declared.ids.Written.{Written}
use Rattle.swreq_valid.specs.swreq_symbols.Meaning.{facts_of}
use Rattle.swreq_valid.specs.swreq_world.ByTable.{world_by}
use Rattle.swreq_valid.specs.swreq_world.Closed.{AreIds}
use Rattle.swreq_valid.specs.swreq_world.Worlds.{IdWorld, requirements_of}
use Rattle.swreq_valid.specs.Keeping.{HasNumber}
use Rattle.swreq_valid.specs.Plans.{bare}
use Rattle.swreq_valid.proofs.swreq_symbols.OfText.{own_requirements, protocol_written}
use Rattle.swreq_print.proofs.swreq_lemmas.Elements.{drop_from}
use Rattle.swreq_reqsig.specs.declared.places.Place.{Place}
use Rattle.swreq_reqsig.specs.declared.outlines.Outline.{Outline}
use Rattle.swreq_reqsig.specs.Families.{own, owned, owned_in}
use Rattle.swreq_reqsig.specs.Outlines.{outline_of, outlines_of}
use Rattle.swreq_reqsig.specs.Places.{IsPlaceIn, all_places, owned_at, places_from, places_in}

-- ---- one by one

pub one_protocol : (w : IdWorld) (ps : List ProtoId) (k : ℕ) (p : ProtoId) (list : List Requirement) (old new whole : List Place)
    → slice_get ps k ≡ Some p
    → list ≡ bare (requirements_of w p) → new ≡ old ++ places_from p 1 list → old ++ places_in w (drop k ps) ≡ whole
    → new ++ places_in w (drop (k + 1) ps) ≡ whole
one_protocol w ps k p list old new whole e i f h =
    ap (λ z. z ++ places_in w (drop (k + 1) ps)) f
    ∙ append_assoc old (places_from p 1 list) (places_in w (drop (k + 1) ps))
    ∙ ap (λ z. old ++ (places_from p 1 z ++ places_in w (drop (k + 1) ps))) i
    ∙ ap (λ z. old ++ places_in w z) (sym (drop_from ps k p e))
    ∙ h

pub protocols_done : (w : IdWorld) (ps : List ProtoId) (k : ℕ) (all whole : List Place) → length ps ≤ k
    → all ++ places_in w (drop k ps) ≡ whole → all ≡ whole
protocols_done w ps k all whole l h = sym (append-nil all) ∙ ap (λ z. all ++ places_in w z) (sym (drop_all k ps l)) ∙ h

-- ---- what stands at a place

-- it is the requirement after this many of these, the first of which has the number after n
record IsFrom (p : ProtoId) (n : ℕ) (rs : List Requirement) (x : Place) : Type 0 where
  pub proto : x.proto ≡ p
  pub count : ℕ
  pub number : x.number ≡ suc (n + count)
  pub there : slice_get rs count ≡ Some x.requirement

is_from : (p : ProtoId) (n : ℕ) (rs : List Requirement) (x : Place) → Contains (places_from p (suc n) rs) x → IsFrom p n rs x
is_from p n [] x c = no_member x c
is_from p n (r ∷ rs) x c =
    elim (member_cases (record { proto = p; number = suc n; requirement = r }) x (places_from p (suc (suc n)) rs) c) [
      | inl e ↦ record {
        proto = ap (λ (z : Place). z.proto) e;
        count = 0;
        number = (let i = ap (λ (z : Place). z.number) e in omega (arith, i));
        there = ap (λ (z : Place). Some z.requirement) (sym e);
      }
      | inr k ↦ (let f : IsFrom p (suc n) rs x = is_from p (suc n) rs x k in record {
        proto = f.proto;
        count = suc f.count;
        number = (let i = f.number in omega (arith, i));
        there = f.there;
      })
    ]

place_in : (w : IdWorld) → AreIds w.lexicon → (ps : List ProtoId) → ((p : ProtoId) → Contains ps p → Contains w.lexicon.written_order p)
    → (x : Place)
    → Contains (places_in w ps) x → IsPlaceIn w x
place_in w ids [] of x c = no_member x c
place_in w ids (p ∷ ps) of x c = elim (Contains-append_cases (places_from p 1 (bare (requirements_of w p))) (places_in w ps) x c) [
  | inl k ↦ (let f : IsFrom p 0 (bare (requirements_of w p)) x = is_from p 0 (bare (requirements_of w p)) x k in record {
    proto = (ids.written_order x.proto).0 (subst (Contains w.lexicon.written_order) (sym f.proto) (of p (first_member p ps)));
    before = f.count;
    number = (let i = f.number in omega (arith, i));
    requirement = subst (λ (z : ProtoId). slice_get (bare (requirements_of w z)) f.count ≡ Some x.requirement) (sym f.proto) f.there;
  })
  | inr k ↦ place_in w ids ps (λ q h. of q (later_member p q ps h)) x k
]

pub place_is : (w : IdWorld) → AreIds w.lexicon → (k : ℕ) (x : Place) → slice_get (all_places w) k ≡ Some x → IsPlaceIn w x
place_is w ids k x e = place_in w ids w.lexicon.written_order (λ p h. h) x (get_contains (all_places w) k x e)

-- ---- over type parameters

module _ (w : IdWorld) (terms : List Term) where
  from_owned : (p : ProtoId) (n : ℕ) (rs : List Requirement)
      → map (owned_at terms) (places_from p n rs) ≡ map (own p) (map (requirement_of terms) rs)
  from_owned p n [] = refl
  from_owned p n (r ∷ rs) = ap (λ z. own p (requirement_of terms r) ∷ z) (from_owned p (suc n) rs)

  in_owned : (ps : List ProtoId) → map (owned_at terms) (places_in w ps) ≡ owned_in (world_by terms w) ps
  in_owned [] = refl
  in_owned (p ∷ ps) =
      map-append (owned_at terms) (places_from p 1 (bare (requirements_of w p))) (places_in w ps)
      ∙ ap₂ (λ a b. a ++ b)
      (from_owned p 1 (bare (requirements_of w p)) ∙ ap (map (own p)) (sym (own_requirements w terms p))) (in_owned ps)

  pub places_owned : map (owned_at terms) (all_places w) ≡ owned (world_by terms w)
  places_owned = in_owned w.lexicon.written_order

  pub places_count : length (all_places w) ≡ length (owned (world_by terms w))
  places_count = sym (length-map (all_places w) (owned_at terms)) ∙ ap length places_owned

  pub owned_there : (k : ℕ) (x : Place) → slice_get (all_places w) k ≡ Some x
      → slice_get (owned (world_by terms w)) k ≡ Some (owned_at terms x)
  owned_there k x e =
      ap (λ z. slice_get z k) (sym places_owned) ∙ slice_get-map (owned_at terms) (all_places w) k ∙ ap (option_map (owned_at terms)) e

-- ---- the requirement at a place, which its protocol states

-- it is of the table and of the text
pub place_known : (w : IdWorld) (terms : List Term) → IsTextOver terms w → (x : Place) → IsPlaceIn w x
    → IsRequirementIn terms w.lexicon x.requirement
place_known w terms text x p =
    let c = contains_of_map (λ (z : Written). z.requirement) (requirements_of w x.proto) x.requirement
    (get_contains (bare (requirements_of w x.proto)) p.before x.requirement p.requirement) in
    subst (IsRequirementIn terms w.lexicon) (sym c.2) (protocol_written w terms text x.proto c.0 c.1)

-- over type parameters it stands at its place
place_stated : (w : IdWorld) (terms : List Term) (x : Place) (p : IsPlaceIn w x)
    → slice_get ((facts_of (world_by terms w)).of_protocol x.proto) p.before ≡ Some (requirement_of terms x.requirement)
place_stated w terms x p =
    ap (λ z. slice_get z p.before) (own_requirements w terms x.proto)
    ∙ slice_get-map (requirement_of terms) (bare (requirements_of w x.proto)) p.before
    ∙ ap (option_map (requirement_of terms)) p.requirement

-- and has its number
pub place_numbered : (w : IdWorld) (terms : List Term) (x : Place) → IsPlaceIn w x
    → HasNumber (world_by terms w) x.proto x.number (requirement_of terms x.requirement)
place_numbered w terms x p =
    subst (λ (n : ℕ). HasNumber (world_by terms w) x.proto n (requirement_of terms x.requirement)) (sym p.number) (place_stated w terms x p)

-- ---- their outlines

module _ (w : IdWorld) (terms : List Term) where
  abbrev pub outlines_at : List Place → List Outline
  outlines_at places = map (outline_of w.lexicon) (map (owned_at terms) places)

  pub one_outline : (places : List Place) (k : ℕ) (x : Place) (outline : Outline) (old new : List Outline) (whole : List Outline)
      → slice_get places k ≡ Some x → outline ≡ outline_of w.lexicon (owned_at terms x) → new ≡ old ++ outline ∷ []
      → old ++ outlines_at (drop k places) ≡ whole → new ++ outlines_at (drop (k + 1) places) ≡ whole
  one_outline places k x outline old new whole at is e h =
      ap (λ z. z ++ outlines_at (drop (k + 1) places)) e
      ∙ append_assoc old (outline ∷ []) (outlines_at (drop (k + 1) places))
      ∙ ap (λ (z : Outline). old ++ (z ∷ outlines_at (drop (k + 1) places))) is
      ∙ ap (λ (z : List Place). old ++ outlines_at z) (sym (drop_from places k x at))
      ∙ h

  pub outlines_done : (places : List Place) (k : ℕ) (all : List Outline) → length places ≤ k → places ≡ all_places w
      → all ++ outlines_at (drop k places) ≡ outlines_at places → all ≡ outlines_of w.lexicon (owned (world_by terms w))
  outlines_done places k all l e h =
      sym (append-nil all) ∙ ap (λ z. all ++ outlines_at z) (sym (drop_all k places l)) ∙ h
      ∙ ap outlines_at e ∙ ap (map (outline_of w.lexicon)) (places_owned w terms)
