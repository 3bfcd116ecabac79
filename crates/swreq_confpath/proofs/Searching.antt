-- What the calls of the search keep.
use Rattle.std.proofs.Common.{◌≡◌, ℕ, zero, suc, ◌-◌, ◌+◌, ◌^◌, ◌<◌, ◌≤◌, inl, inr, List, [], ◌∷◌, ◌++◌, length, map, Option, Some, None, MatchOption, Contains, slice_get, refl, sym, ap, subst, ◌∙◌, arith}
use Rattle.std.proofs.lemmas.List.{length-map}
use Rattle.std.proofs.lemmas.Option.{slice_get_within}
use Rattle.swreq_print.proofs.swreq_lemmas.Elements.{contains_get, get_contains}
use Rattle.swreq_machine.specs.swreq_param.declared.ids.ParamId.{ParamId}
use Rattle.swreq_machine.specs.swreq_param.declared.ids.ProtoId.{ProtoId}
use Rattle.swreq_machine.specs.swreq_param.declared.ids.TermId.{TermId}
use Rattle.swreq_machine.specs.swreq_param.Terms.{Term}
use Rattle.swreq_machine.specs.swreq_derive.declared.requirements.Requirement.{Requirement}
use Rattle.swreq_machine.specs.swreq_derive.declared.requirements.Requirement.TheVariants.{Conf, Layout, Same}
use Rattle.swreq_machine.specs.swreq_derive.Derivation.{Source, TermFacts, TermRequirement}
use Rattle.swreq_machine.specs.swreq_derive.Derivation.TermRequirement.{Conforms}
use Rattle.swreq_machine.specs.swreq_derive.Facts.{requirement_of}
use Rattle.swreq_machine.specs.swreq_derive.Derivation.Derives.{reflex}
use Rattle.swreq_machine.specs.swreq_derive.Instances.{HasNumber}
use Rattle.swreq_machine.proofs.swreq_derive.Substitution.{valid_sides}
use Rattle.swreq_machine.proofs.swreq_derive.InstanceLemmas.{map_number, one_number}
use Rattle.swreq_confpath.specs.declared.path.ConfPath.{ConfPath}
use Rattle.swreq_confpath.specs.declared.places.Place.{Place}
use Rattle.swreq_confpath.specs.declared.places.Place.TheVariants as places
use Rattle.swreq_confpath.specs.declared.sought.Sought.{Sought}
use Rattle.swreq_confpath.specs.Routes.{TermPlace, AreAlike, GoesTo, gone_on, requirements_at}
use Rattle.swreq_confpath.specs.Searches.{AimView, AreSpotsOf, HasParted, IsAim, IsGiven, IsKnown, IsPlaceIn, IsSearch, IsSearchAt, StandsFor, facts_in, list_in, params_in, required_at, sought_in, source_in}
use Rattle.swreq_confpath.specs.Spots.{IsKept, IsReached, Spot}
use Rattle.swreq_confpath.specs.Tried.{AreTriedUpTo, IsDeadEnd, IsSettled, TermSpot, start}
use Rattle.swreq_confpath.proofs.Alike.{stays_derivable}
use Rattle.swreq_confpath.proofs.Covering.{is_given, not_ended, one_there}
use Rattle.swreq_confpath.proofs.DeadEnds.{dead_end}
use Rattle.swreq_confpath.proofs.Standing.{alike_by_place, place_by_alike, same_requirements}
use Rattle.swreq_machine.specs.swreq_symbols.Texts.{term_of}
use Rattle.swreq_confpath.proofs.Stepping.{adds, begun, done, is_known, knows, opens, passes}
use Rattle.swreq_confpath.proofs.Requirements.{few_at}

-- ---- spots

-- a spot of the code with the one for which it stands
pub record IsSpotAt (s : Sought) (tried : List TermSpot) (k : ℕ) (x : Spot) : Type 0 where
  pub at : TermSpot
  pub there : slice_get tried k ≡ Some at
  pub numbers : x.1 ≡ at.numbers
  pub place : IsPlaceIn s.text.world.now x.0
  pub stands : StandsFor s x.0 at.place

pub spot_at : (s : Sought) (tried : List TermSpot) (spots : List Spot) → AreSpotsOf s tried spots → (k : ℕ) (x : Spot)
    → slice_get spots k ≡ Some x
    → IsSpotAt s tried k x
spot_at s [] [] h k x e = absurd (let l = slice_get_within [] k x e in omega arith)
spot_at s [] (y ∷ ys) h k x e = absurd h
spot_at s (a ∷ bs) [] h k x e = absurd h
spot_at s (a ∷ bs) (y ∷ ys) h zero x e =
    let same : y ≡ x = cc in
    subst (IsSpotAt s (a ∷ bs) 0) same (record { at = a; there = refl; numbers = h.0; place = h.1; stands = h.2 })
spot_at s (a ∷ bs) (y ∷ ys) h (suc k) x e =
    let r = spot_at s bs ys h.3 k x e in
    record { at = r.at; there = r.there; numbers = r.numbers; place = r.place; stands = r.stands }

pub spots_length : (s : Sought) (tried : List TermSpot) (spots : List Spot) → AreSpotsOf s tried spots → length tried ≡ length spots
spots_length s [] [] h = refl
spots_length s [] (y ∷ ys) h = absurd h
spots_length s (a ∷ bs) [] h = absurd h
spots_length s (a ∷ bs) (y ∷ ys) h = ap suc (spots_length s bs ys h.3)

spots_more : (s : Sought) (tried : List TermSpot) (spots : List Spot) (a : TermSpot) (x : Spot) → AreSpotsOf s tried spots → x.1 ≡ a.numbers
    → IsPlaceIn s.text.world.now x.0 → StandsFor s x.0 a.place → AreSpotsOf s (tried ++ a ∷ []) (spots ++ x ∷ [])
spots_more s [] [] a x h e i k = (e, i, k, tt)
spots_more s [] (y ∷ ys) a x h e i k = absurd h
spots_more s (b ∷ bs) [] a x h e i k = absurd h
spots_more s (b ∷ bs) (y ∷ ys) a x h e i k = (h.0, h.1, h.2, spots_more s bs ys a x h.3 e i k)

-- the next one is among the spots
pub within : (s : Sought) (spots : List Spot) (next : ℕ) (from : Place) (count : ℕ)
    → IsSearchAt s spots next from count → next < length spots
within s spots next from count h =
    let l = slice_get_within h.tried next h.at h.up_to.is_next in
    let e = spots_length s h.tried spots h.stand in
    omega arith

-- a requirement of the code that is not a conformance
no_conforms : (terms : List Term) (r : Requirement) → ((t : TermId) (p : ProtoId) → r ≡ Conf t p → ⊥) → (t : Term) (p : ProtoId)
    → requirement_of terms r ≡ Conforms t p → ⊥
no_conforms terms (Conf u q) none t p e = none u q refl
no_conforms terms (Layout u) none t p e = cc
no_conforms terms (Same u v) none t p e = cc

-- the place of one that was tried is of the text
pub place_tried : (s : Sought) (spots : List Spot) (next : ℕ) → IsSearch s spots next → (x : Spot) → slice_get spots next ≡ Some x
    → (from : Place) → from ≡ x.0 → IsPlaceIn s.text.world.now from
place_tried s spots next h x there from same =
    subst (IsPlaceIn s.text.world.now) (sym same) (spot_at s h.tried spots h.stand next x there).place

-- so numbers of 32 bits count the requirements there
pub few_tried : (a : AimView) → IsAim a → (spots : List Spot) (next : ℕ) → IsSearch a.sought spots next → (x : Spot)
    → slice_get spots next ≡ Some x → (from : Place) → from ≡ x.0 → (list : List Requirement)
    → list ≡ required_at a.sought.text.world.now a.sought.list.now from → length list < 2 ^ 32
few_tried a is spots next h x there from same list e =
    subst (λ (z : List Requirement). length z < 2 ^ 32) (sym e)
    (few_at a.sought is.known from (place_tried a.sought spots next h x there from same))

module _ (s : Sought) (known : IsKnown s) where
  abbrev F : TermFacts
  F = facts_in s

  abbrev G : List ParamId
  G = params_in s

  abbrev L : List TermRequirement
  L = list_in s

  abbrev S : Source
  S = source_in s

  sought_itself : AreAlike F S (sought_in s) (sought_in s)
  sought_itself = (refl, reflex (valid_sides F S (Conforms (term_of s.text s.subject) s.proto) known.derivable), known.derivable)

  -- ---- from one place to the next

  -- the search begins
  pub begins : (spots : List Spot) → spots ≡ (places.Start, []) ∷ [] → IsSearch s spots 0
  begins spots e = record {
    tried = start ∷ [];
    stand = subst (AreSpotsOf s (start ∷ [])) (sym e) (refl, tt, tt, tt);
    ready = begun F G L known.protocols known.well_formed (sought_in s) (λ like. like);
  }

  -- and ends only with a path
  pub ends : (spots : List Spot) (next : ℕ) → IsSearch s spots next → length spots ≤ next → ⊥
  ends spots next h all =
      let e = spots_length s h.tried spots h.stand in
      not_ended F G L known.protocols known.well_formed
      (term_of s.text s.subject) s.proto h.tried next known.derivable h.ready.so_far (omega arith)

  pub turned : (spots : List Spot) (next : ℕ) (x : Spot) (from : Place) → slice_get spots next ≡ Some x → from ≡ x.0 → IsSearch s spots next
      → IsSearchAt s spots next from 0
  turned spots next x from there same h =
      let a = spot_at s h.tried spots h.stand next x there in
      record {
        tried = h.tried;
        stand = h.stand;
        at = a.at;
        stands_at = subst (λ z. StandsFor s z a.at.place) (sym same) a.stands;
        up_to = opens F G L known.protocols known.well_formed (sought_in s) h.tried next a.at h.ready a.there;
      }

  pub finished : (spots : List Spot) (next : ℕ) (from : Place) (count : ℕ) → IsSearchAt s spots next from count
      → length (required_at s.text.world.now s.list.now from) ≤ count → IsSearch s spots (next + 1)
  finished spots next from count h all = record {
    tried = h.tried;
    stand = h.stand;
    ready = done F G L known.protocols known.well_formed (sought_in s) h.tried next h.at count h.up_to
        (λ n d goes.
        let rs = required_at s.text.world.now s.list.now from in
        let there = subst (λ z. HasNumber n z (Conforms goes.0 goes.1)) (same_requirements s from h.at.place h.stands_at) goes.2 in
        let within = slice_get_within (map (requirement_of s.text.table.now) rs) (n - 1) (Conforms goes.0 goes.1) there.1 in
        let e = length-map rs (requirement_of s.text.table.now) in
        omega arith);
  }

  -- ---- one requirement more

  module _ (spots : List Spot) (next : ℕ) (from : Place) (count : ℕ) (h : IsSearchAt s spots next from count) where
    numbered : (r : Requirement) → HasNumber (suc count) (required_at s.text.world.now s.list.now from) r
        → HasNumber (suc count) (requirements_at F L h.at.place) (requirement_of s.text.table.now r)
    numbered r n =
        subst (λ z. HasNumber (suc count) z (requirement_of s.text.table.now r)) (sym (same_requirements s from h.at.place h.stands_at))
        (map_number (requirement_of s.text.table.now) (suc count) (required_at s.text.world.now s.list.now from) r n)

    -- the spots stay, where what goes on by the requirement is settled with them
    same_spots : AreTriedUpTo F G L (sought_in s) h.tried next h.at (suc count) → IsSearchAt s spots next from (suc count)
    same_spots up_to = record { tried = h.tried; stand = h.stand; at = h.at; stands_at = h.stands_at; up_to = up_to }

    -- one by which one does not go on
    passed : (r : Requirement) → HasNumber (suc count) (required_at s.text.world.now s.list.now from) r
        → ((t : TermId) (p : ProtoId) → r ≡ Conf t p → ⊥)
        → IsSearchAt s spots next from (suc count)
    passed r n none =
        same_spots (passes F G L known.protocols known.well_formed (sought_in s) h.tried next h.at count h.up_to
        (λ d goes. no_conforms s.text.table.now r none goes.0 goes.1
        (one_number (suc count) (requirements_at F L h.at.place) (requirement_of s.text.table.now r) (Conforms goes.0 goes.1)
        (numbered r n) goes.2)))

    module _ (t : TermId) (p : ProtoId)
        (n : HasNumber (suc count) (required_at s.text.world.now s.list.now from) (Conf t p)) (target place : Place)
        (sought : StandsFor s target (sought_in s)) (of_text : IsPlaceIn s.text.world.now place)
        (stands : StandsFor s place (gone_on h.at.place (term_of s.text t) p)) where
      abbrev d : TermPlace
      d = gone_on h.at.place (term_of s.text t) p

      goes : GoesTo F L h.at.place (suc count) d
      goes = (term_of s.text t, p, numbered (Conf t p) n, refl)

      at_itself : AreAlike F S h.at.place h.at.place
      at_itself = (h.up_to.so_far.leads h.at (get_contains h.tried next h.at h.up_to.is_next)).1

      itself : AreAlike F S d d
      itself = stays_derivable F L G known.protocols known.well_formed h.at.place (suc count) d at_itself goes

      -- the place that is sought
      found : (path : ConfPath) → place ≡ target → path.first ∷ path.steps ≡ h.at.numbers ++ suc count ∷ [] → IsGiven s path
      found path same numbers =
          is_given F G L known.protocols known.well_formed
          (term_of s.text s.subject) s.proto h.tried next h.at count d path.first path.steps known.derivable h.up_to goes
          (alike_by_place s known target d (sought_in s) (subst (λ z. StandsFor s z d) same stands) sought itself sought_itself) numbers

      other : (place ≡ target → ⊥) → AreAlike F S d (sought_in s) → ⊥
      other differs like = differs (place_by_alike s known place target d (sought_in s) stands sought like)

      -- one that is settled
      settled : IsSettled F G L (sought_in s) h.tried (h.at.numbers ++ suc count ∷ []) d → (AreAlike F S d (sought_in s) → ⊥)
          → IsSearchAt s spots next from (suc count)
      settled is differs =
          same_spots (knows F G L known.protocols known.well_formed (sought_in s) h.tried next h.at count d h.up_to goes is differs)

      -- one from which the place that is sought cannot be reached
      set_aside : HasParted s target place → IsSearchAt s spots next from (suc count)
      set_aside parted =
          let dead : IsDeadEnd F G L (sought_in s) d = dead_end s known target place d sought stands parted in
          settled (inr dead) (dead [] d refl)

      -- one that was reached before
      left_out : (place ≡ target → ⊥) → IsReached spots place → IsSearchAt s spots next from (suc count)
      left_out differs reached =
          let (k, there) = contains_get spots reached.0 reached.1 in
          let e = spot_at s h.tried spots h.stand k reached.0 there in
          let of : Contains h.tried e.at = get_contains h.tried k e.at e.there in
          let like : AreAlike F S e.at.place d
          = alike_by_place s known place e.at.place d (subst (λ z. StandsFor s z e.at.place) reached.2 e.stands) stands
          (h.up_to.so_far.leads e.at of).1 itself in
          settled (is_known F G L known.protocols known.well_formed (sought_in s) h.tried next h.at count d e.at h.up_to of like)
          (other differs)

      -- and one that is new
      kept : (place ≡ target → ⊥) → (numbers : List ℕ) → numbers ≡ h.at.numbers ++ suc count ∷ []
          → IsSearchAt s (spots ++ (place, numbers) ∷ []) next from (suc count)
      kept differs numbers e = record {
        tried = h.tried ++ (record { numbers = h.at.numbers ++ suc count ∷ []; place = d }) ∷ [];
        stand = spots_more s h.tried spots (record { numbers = h.at.numbers ++ suc count ∷ []; place = d })
            (place, numbers) h.stand e of_text stands;
        at = h.at;
        stands_at = h.stands_at;
        up_to = adds F G L known.protocols known.well_formed (sought_in s) h.tried next h.at count d h.up_to goes (other differs);
      }

      -- what trying the place comes to
      tried_place : (new : List Spot) (x : Spot) (o : Option ConfPath) → slice_get spots next ≡ Some x
          → MatchOption o ((place ≡ target → ⊥) × IsKept spots new place (x.1 ++ suc count ∷ []))
          (λ path. (place ≡ target) × (path.first ∷ path.steps ≡ x.1 ++ suc count ∷ []))
          → MatchOption o (IsSearchAt s new next from (suc count)) (IsGiven s)
      tried_place new x o there outcome = by o outcome
        where
          numbers_are : x.1 ≡ h.at.numbers
          numbers_are =
              let a = spot_at s h.tried spots h.stand next x there in
              a.numbers ∙ ap (λ (z : TermSpot). z.numbers) (same_spot a.at a.there)
            where
              same_spot : (a : TermSpot) → slice_get h.tried next ≡ Some a → a ≡ h.at
              same_spot a e = one_there h.tried next a h.at e h.up_to.is_next

          with_last : x.1 ++ suc count ∷ [] ≡ h.at.numbers ++ suc count ∷ []
          with_last = ap (λ z. z ++ suc count ∷ []) numbers_are

          by : (o : Option ConfPath)
              → MatchOption o ((place ≡ target → ⊥) × IsKept spots new place (x.1 ++ suc count ∷ []))
              (λ path. (place ≡ target) × (path.first ∷ path.steps ≡ x.1 ++ suc count ∷ []))
              → MatchOption o (IsSearchAt s new next from (suc count)) (IsGiven s)
          by (Some path) k = found path k.0 (k.1 ∙ with_last)
          by None k = elim k.1 [
            | inl before ↦ subst (λ z. IsSearchAt s z next from (suc count)) (sym before.1) (left_out k.0 before.0)
            | inr new_one ↦ subst (λ z. IsSearchAt s z next from (suc count)) (sym new_one) (kept k.0 (x.1 ++ suc count ∷ []) with_last)
          ]

  -- ---- by the number of the requirement

  the_number : (number : ℕ) → 0 < number → suc (number - 1) ≡ number
  the_number number some = omega arith

  pub passed_by : (spots : List Spot) (next : ℕ) (from : Place) (number : ℕ) (r : Requirement) → IsSearchAt s spots next from (number - 1)
      → HasNumber number (required_at s.text.world.now s.list.now from) r → ((t : TermId) (p : ProtoId) → r ≡ Conf t p → ⊥)
      → IsSearchAt s spots next from number
  passed_by spots next from number r h n none =
      let e = the_number number n.0 in
      subst (IsSearchAt s spots next from) e
      (passed spots next from (number - 1) h r (subst (λ k. HasNumber k (required_at s.text.world.now s.list.now from) r) (sym e) n) none)

  pub set_aside_by : (spots : List Spot) (next : ℕ) (from target place : Place) (number : ℕ) (t : TermId) (p : ProtoId)
      → IsSearchAt s spots next from (number - 1) → HasNumber number (required_at s.text.world.now s.list.now from) (Conf t p)
      → StandsFor s target (sought_in s) → IsPlaceIn s.text.world.now place
      → ((a : TermPlace) → StandsFor s from a → StandsFor s place (gone_on a (term_of s.text t) p)) → HasParted s target place
      → IsSearchAt s spots next from number
  set_aside_by spots next from target place number t p h n sought of_text stands parted =
      let e = the_number number n.0 in
      subst (IsSearchAt s spots next from) e
      (set_aside spots next from (number - 1) h t p
      (subst (λ k. HasNumber k (required_at s.text.world.now s.list.now from) (Conf t p)) (sym e) n) target place sought of_text
      (stands h.at.place h.stands_at) parted)

  pub tried_by : (spots new : List Spot) (next : ℕ) (from target place : Place) (number : ℕ) (t : TermId)
      (p : ProtoId) (o : Option ConfPath)
      → IsSearchAt s spots next from (number - 1) → HasNumber number (required_at s.text.world.now s.list.now from) (Conf t p)
      → StandsFor s target (sought_in s) → IsPlaceIn s.text.world.now place
      → ((a : TermPlace) → StandsFor s from a → StandsFor s place (gone_on a (term_of s.text t) p))
      → (x : Spot) → slice_get spots next ≡ Some x
      → MatchOption o ((place ≡ target → ⊥) × IsKept spots new place (x.1 ++ number ∷ []))
      (λ path. (place ≡ target) × (path.first ∷ path.steps ≡ x.1 ++ number ∷ []))
      → MatchOption o (IsSearchAt s new next from number) (IsGiven s)
  tried_by spots new next from target place number t p o h n sought of_text stands x there outcome =
      let e = the_number number n.0 in
      subst (λ k. MatchOption o (IsSearchAt s new next from k) (IsGiven s)) e
      (tried_place spots next from (number - 1) h t p
      (subst (λ k. HasNumber k (required_at s.text.world.now s.list.now from) (Conf t p)) (sym e) n) target place sought of_text
      (stands h.at.place h.stands_at) new x o there
      (subst (λ k. MatchOption o ((place ≡ target → ⊥) × IsKept spots new place (x.1 ++ k ∷ []))
      (λ path. (place ≡ target) × (path.first ∷ path.steps ≡ x.1 ++ k ∷ []))) (sym e) outcome))
