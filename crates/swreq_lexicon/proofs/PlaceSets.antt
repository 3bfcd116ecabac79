-- Sets of places, and how many of their numbers pass a test.
use Rattle.std.proofs.Common.{◌≡◌, ◌≢◌, ℕ, zero, suc, ◌+◌, ◌<◌, ◌≤◌, ⊎_elim, Bool, true, false, cond, ◌&&◌, List, [], length, get_or, map, slice_get, Some, unwrap_or, Contains, sym, ap, ◌∙◌, arith}
use Rattle.std.specs.Str.{bytes_eq}
use Rattle.std.specs.List.{position_from}
use Rattle.std.proofs.Math.Bool.{and-false, and-true}
use Rattle.std.proofs.lemmas.Cmp.{nat_list_cmp_total}
use Rattle.std.proofs.lemmas.List.{length-map}
use Rattle.std.proofs.lemmas.Option.{slice_get_within, slice_get-get_or, same_Some}
use Rattle.swreq_rank.proofs.swreq_lemmas.Numbers.{last_or_below}
use Rattle.swreq_closure.specs.Bits.{has, room, count_below}
use Rattle.swreq_closure.specs.Chains.{Matrix, leads}
use Rattle.swreq_closure.specs.Walks.{AreApart}
use Rattle.swreq_closure.proofs.Counts.{count_le, count_none, count_same}
use Rattle.swreq_names.specs.Spaces.{place}
use Rattle.swreq_names.specs.declared.directory.Declaration.{Declaration}
use Rattle.swreq_derive.specs.swreq_param.declared.ids.ProtoId.{ProtoId}
use Rattle.swreq_rank.specs.Ranks.{Bytes, bytes_cmp, IsRanking}
use Rattle.swreq_rank.proofs.Rising.{rising_from_sorted, one_place}
use Rattle.swreq_lexicon.specs.Associated.{protocol, depth}
use Rattle.swreq_lexicon.specs.PlaceSets.{IsSetOf}
use Rattle.swreq_lexicon.specs.Views.{place_by, inherits_by}
use Rattle.swreq_lexicon.proofs.Places.{placed}
use Rattle.swreq_lexicon.proofs.RankLaws.{place_is}

-- ---- a test that one number more passes

abbrev counted : Bool → ℕ
counted b = cond b 1 0

module _ (f g : ℕ → Bool) (k : ℕ) (b : Bool) (others : (j : ℕ) → j ≢ k → g j ≡ f j) (before : f k ≡ false) (after : g k ≡ b) where
  count_more : (n : ℕ) → k < n → count_below g n ≡ count_below f n + counted b
  count_more zero h = absurd (omega arith)
  count_more (suc n) h = ⊎_elim last (λ l. earlier l (count_more n l)) (last_or_below k n (omega (arith, h)))
    where
      last : k ≡ n → count_below g (suc n) ≡ count_below f (suc n) + counted b
      last e =
          let same : count_below g n ≡ count_below f n = count_same g f n (λ j l. others j (λ d. omega (arith, e, d, l))) in
          let new : counted (g n) ≡ counted b = ap counted (ap g (sym e) ∙ after) in
          let old : counted (f n) ≡ 0 = ap counted (ap f (sym e) ∙ before) in
          omega (arith, same, new, old)

      earlier : k < n → count_below g n ≡ count_below f n + counted b → count_below g (suc n) ≡ count_below f (suc n) + counted b
      earlier l same =
          let here : counted (g n) ≡ counted (f n) = ap counted (others n (λ d. omega (arith, d, l))) in
          omega (arith, same, here)

-- ---- a number more in a set

pub set_empty : (set : List ℕ) → ((k : ℕ) → has set k ≡ false) → (test : ℕ → Bool) (n : ℕ) → count_below (λ k. test k && has set k) n ≡ 0
set_empty set none test n = count_none (λ k. test k && has set k) n (λ k. ap (λ b. test k && b) (none k) ∙ and-false (test k))

pub set_more : (old new : List ℕ) (k : ℕ) → room new ≡ room old → k < room old → has old k ≡ false → has new k ≡ true
    → ((j : ℕ) → j ≢ k → has new j ≡ has old j)
    → (test : ℕ → Bool)
    → count_below (λ j. test j && has new j) (room new) ≡ count_below (λ j. test j && has old j) (room old) + counted (test k)
set_more old new k size h before after others test =
    ap (count_below (λ j. test j && has new j)) size
    ∙ count_more (λ j. test j && has old j) (λ j. test j && has new j) k (test k) (λ j n. ap (λ b. test j && b) (others j n))
    (ap (λ b. test k && b) before ∙ and-false (test k)) (ap (λ b. test k && b) after ∙ and-true (test k)) (room old) h

-- the places that are still to be added are not in the set
pub fresh_more : (places old new : List ℕ) (i : ℕ) → AreApart places → i < length places
    → ((j : ℕ) → j ≢ get_or places i 0 → has new j ≡ has old j)
    → ((r : ℕ) → i ≤ r → r < length places → has old (get_or places r 0) ≡ false) → (r : ℕ) → i + 1 ≤ r → r < length places
    → has new (get_or places r 0) ≡ false
fresh_more places old new i apart h others fresh r g l =
    others (get_or places r 0) (λ e. apart i r (omega (arith, g)) l (sym e)) ∙ fresh r (omega (arith, g)) l

-- ---- the first places of names

module _ (all ranks : List Bytes) (ds : List Declaration) (places : List ℕ) (names : map (λ (d : Declaration). d.name) ds ≡ all)
    (ranking : IsRanking bytes_cmp (Contains all) ranks)
    (are : places ≡ map (λ name. unwrap_or (place ds name) 0) ranks) where
  pub places_length : length places ≡ length ranks
  places_length = ap length are ∙ length-map ranks (λ name. unwrap_or (place ds name) 0)

  pub first_place : (r : ℕ) (name : Bytes) → slice_get ranks r ≡ Some name → position_from (bytes_eq name) 0 all ≡ Some (get_or places r 0)
  first_place r name h = placed all ranks ds names (λ q. (ranking.same q).0) r name h ∙ ap (λ (xs : List ℕ). Some (get_or xs r 0)) (sym are)

  named : (r : ℕ) → r < length places → slice_get ranks r ≡ Some (get_or ranks r [])
  named r h = let size = places_length in slice_get-get_or ranks r [] (omega (arith, size, h))

  there : (r : ℕ) → r < length places → slice_get all (get_or places r 0) ≡ Some (get_or ranks r [])
  there r h = place_is all (get_or ranks r []) (get_or places r 0) (first_place r (get_or ranks r []) (named r h))

  pub places_within : (r : ℕ) → r < length places → get_or places r 0 < length all
  places_within r h = slice_get_within all (get_or places r 0) (get_or ranks r []) (there r h)

  pub places_apart : AreApart places
  places_apart i j h l e =
      let k : i < length places = omega (arith, h, l) in
      let same : get_or ranks i [] ≡ get_or ranks j [] =
      same_Some (get_or ranks i []) (get_or ranks j []) (sym (there i k) ∙ ap (slice_get all) e ∙ there j l) in
      let one : i ≡ j = one_place bytes_cmp nat_list_cmp_total ranks (rising_from_sorted bytes_cmp ranks ranking.sorted) i j
      (get_or ranks j []) (named i k ∙ ap Some same) (named j l) in
      omega (arith, one, h)

-- ---- how many protocols a protocol inherits

module _ (rows : Matrix) (places set : List ℕ) (n : ℕ) (p : ProtoId) (size : length places ≡ n) (are : IsSetOf places set) where
  pub depth_counted : count_below (λ to. leads rows (place_by places p) to && has set to) (room set) ≡ depth (inherits_by places rows) n p
  depth_counted = are (leads rows (place_by places p)) ∙ ap (count_below (λ q. inherits_by places rows p (protocol q))) size

  pub depth_le : depth (inherits_by places rows) n p ≤ n
  depth_le = count_le (λ q. inherits_by places rows p (protocol q)) n
