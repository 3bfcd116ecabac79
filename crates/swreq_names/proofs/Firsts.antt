-- The first place of a name.
use Rattle.std.proofs.Common.{◌≡◌, ℕ, zero, suc, ◌+◌, ◌-◌, ◌<◌, ◌≤◌, ⊎_elim, true, false, cond, List, [], ◌∷◌, length, get_or, set, drop, replicate, slice_get, Option, None, Some, Contains, refl, sym, ap, ◌∙◌, arith}
use Rattle.std.specs.List.{position_from}
use Rattle.std.specs.Str.{bytes_eq}
use Rattle.std.proofs.lemmas.Cmp.{nat_list_cmp_total}
use Rattle.std.proofs.lemmas.Bool.{cases_eq, false_from_ne_true}
use Rattle.std.proofs.lemmas.List.{at_drop_more, get_or-set_same, get_or-set_other, get_or-map, length-map}
use Rattle.std.proofs.lemmas.Option.{slice_get_within, get_or_from_slice_get, same_Some}
use Rattle.std.proofs.lemmas.List.Elements.{Contains-append_right}
use Rattle.std.proofs.lemmas.Slice.Eq.{bytes_eq-Decides}
use Rattle.swreq_names.specs.declared.directory.Declaration.{Declaration}
use Rattle.swreq_names.specs.Directories.{names_of}
use Rattle.swreq_rank.specs.Ranks.{bytes_cmp}
use Rattle.swreq_rank.proofs.Pushed.{all_alike}
use Rattle.swreq_rank.proofs.Rising.{IsRising, one_place}

pub same_true : (q name : List ℕ) → q ≡ name → bytes_eq q name ≡ true
same_true q name e = (bytes_eq-Decides q name).1 e

pub same_false : (q name : List ℕ) → (q ≡ name → ⊥) → bytes_eq q name ≡ false
same_false q name n = false_from_ne_true (bytes_eq q name) (λ e. n ((bytes_eq-Decides q name).0 e))

-- ---- a place is noted

module _ (ranks : List (List ℕ)) (firsts : List (Option ℕ)) (size : length firsts ≡ length ranks) (at : ℕ) (name : List ℕ) where
  pub noted_at : IsRising bytes_cmp ranks → (k : ℕ) → slice_get ranks k ≡ Some name → (r : ℕ) (q : List ℕ) → slice_get ranks r ≡ Some q
      → get_or (set firsts k (Some at)) r None ≡ cond (bytes_eq q name) (Some at) (get_or firsts r None)
  noted_at rising k e r q f = ⊎_elim here there (cases_eq r k)
    where
      within : (n m k : ℕ) → n ≡ m → k < m → k < n
      within n m k h l = omega arith

      here : r ≡ k → get_or (set firsts k (Some at)) r None ≡ cond (bytes_eq q name) (Some at) (get_or firsts r None)
      here s =
          ap (λ x. get_or (set firsts k (Some at)) x None) s
          ∙ get_or-set_same firsts k (Some at) None (within (length firsts) (length ranks) k size (slice_get_within ranks k name e))
          ∙ ap (λ b. cond b (Some at) (get_or firsts r None))
          (sym (same_true q name (same_Some q name (sym f ∙ ap (slice_get ranks) s ∙ e))))

      there : (r ≡ k → ⊥) → get_or (set firsts k (Some at)) r None ≡ cond (bytes_eq q name) (Some at) (get_or firsts r None)
      there n =
          get_or-set_other firsts k r (Some at) None n
          ∙ ap (λ b. cond b (Some at) (get_or firsts r None))
          (sym (same_false q name (λ s. n (one_place bytes_cmp nat_list_cmp_total ranks rising r k name (f ∙ ap Some s) e))))

  pub not_noted : (Contains ranks name → ⊥) → (r : ℕ) (q : List ℕ) → slice_get ranks r ≡ Some q
      → get_or firsts r None ≡ cond (bytes_eq q name) (Some at) (get_or firsts r None)
  not_noted none r q f =
      ap (λ b. cond b (Some at) (get_or firsts r None))
      (sym (same_false q name (λ s. none (r, slice_get_within ranks r q f, get_or_from_slice_get ranks r q name f ∙ s))))

-- ---- from the last name back to the first

pub one_back : (names : List (List ℕ)) (i : ℕ) (name q : List ℕ) (old new : Option ℕ) → 0 < i → i ≤ length names
    → name ≡ get_or names (i - 1) name
    → new ≡ cond (bytes_eq q name) (Some (i - 1)) old → old ≡ position_from (bytes_eq q) i (drop i names)
    → new ≡ position_from (bytes_eq q) (i - 1) (drop (i - 1) names)
one_back names i name q old new p h e u o =
    let back : i - 1 + 1 ≡ i = omega arith in
    let lt : i - 1 < length names = omega arith in
    u ∙ (λ j. cond (bytes_eq q name) (Some (i - 1)) (o j))
    ∙ (λ j. cond (bytes_eq q (e j)) (Some (i - 1)) (position_from (bytes_eq q) (sym back j) (drop (sym back j) names)))
    ∙ sym (at_drop_more (position_from (bytes_eq q) (i - 1)) names (i - 1) name lt)

pub none_noted : (n r i : ℕ) (names : List (List ℕ)) (q : List ℕ) → length names ≤ i
    → get_or (replicate n None) r None ≡ position_from (bytes_eq q) i (drop i names)
none_noted n r i names q h = all_alike n r None ∙ sym (past names i h i)
  where
    past : (xs : List (List ℕ)) (k : ℕ) → length xs ≤ k → (s : ℕ) → position_from (bytes_eq q) s (drop k xs) ≡ None
    past [] zero h s = refl
    past [] (suc k) h s = refl
    past (x ∷ xs) zero h s = absurd (omega arith)
    past (x ∷ xs) (suc k) h s = past xs k (omega arith) s

pub all_back : (names : List (List ℕ)) (i : ℕ) (q : List ℕ) (first : Option ℕ) → i ≤ 0 → first ≡ position_from (bytes_eq q) i (drop i names)
    → first ≡ position_from (bytes_eq q) 0 names
all_back names i q first h e = let z : i ≡ 0 = omega arith in e ∙ (λ j. position_from (bytes_eq q) (z j) (drop (z j) names))

-- ---- what a look-up finds

pub none_placed : (names : List (List ℕ)) (q : List ℕ) (s : ℕ) → (Contains names q → ⊥) → position_from (bytes_eq q) s names ≡ None
none_placed [] q s n = refl
none_placed (x ∷ xs) q s n =
    ap (λ b. cond b (Some s) (position_from (bytes_eq q) (s + 1) xs)) (same_false q x (λ e. n (0, omega arith, sym e)))
    ∙ none_placed xs q (s + 1) (λ c. n (Contains-append_right (x ∷ []) xs q c))

-- ---- the same of declarations

pub declared_back : (ds : List Declaration) (i : ℕ) (d : Declaration) (q : List ℕ) (old new : Option ℕ) → 0 < i → i ≤ length ds
    → d ≡ get_or ds (i - 1) d
    → new ≡ cond (bytes_eq q d.name) (Some (i - 1)) old → old ≡ position_from (bytes_eq q) i (drop i (names_of ds))
    → new ≡ position_from (bytes_eq q) (i - 1) (drop (i - 1) (names_of ds))
declared_back ds i d q old new p h e u o =
    let size = length-map ds (λ (x : Declaration). x.name) in
    let within : i ≤ length (names_of ds) = omega (arith, size, h) in
    let lt : i - 1 < length ds = omega arith in
    one_back (names_of ds) i d.name q old new p within
    (ap (λ (x : Declaration). x.name) e ∙ sym (get_or-map (λ (x : Declaration). x.name) ds (i - 1) d d.name lt)) u o

pub none_declared : (n r i : ℕ) (ds : List Declaration) (q : List ℕ) → length ds ≤ i
    → get_or (replicate n None) r None ≡ position_from (bytes_eq q) i (drop i (names_of ds))
none_declared n r i ds q h =
    let size = length-map ds (λ (x : Declaration). x.name) in none_noted n r i (names_of ds) q (omega (arith, size, h))
