-- Which protocols declare a name.
use Rattle.std.proofs.Common.{◌≡◌, ℕ, ◌+◌, ◌<◌, ◌≤◌, ◌⊎◌, inl, inr, ⊎_elim, ◌↔◌, List, [], ◌∷◌, ◌++◌, length, get_or, take, slice_get, Some, Contains, refl, sym, ap, subst, ◌∙◌, arith}
use Rattle.std.proofs.lemmas.Bool.{cases_eq, cases_lt}
use Rattle.std.proofs.lemmas.List.{get_or_past, take_all}
use Rattle.std.proofs.lemmas.Cmp.{nat_list_cmp_total}
use Rattle.std.proofs.lemmas.Option.{slice_get_within, get_or_from_slice_get, same_Some}
use Rattle.std.proofs.lemmas.List.Elements.{Contains-append_left, Contains-append_right, Contains-push, Contains-push_cases}
use Rattle.swreq_rank.proofs.swreq_lemmas.Members.{no_member}
use Rattle.swreq_rank.proofs.swreq_lemmas.Numbers.{below}
use Rattle.swreq_rank.specs.Ranks.{bytes_cmp}
use Rattle.swreq_rank.proofs.Pushed.{pushed, with_item}
use Rattle.swreq_rank.proofs.Rising.{IsRising, one_place}
use Rattle.swreq_names.specs.declared.directory.Declaration.{Declaration}
use Rattle.swreq_names.specs.Directories.{names_of}
use Rattle.swreq_names.proofs.Pieces.{mapped_more}

-- ---- one name

module _ (ranks : List (List ℕ)) (lists : List (List ℕ)) (size : length lists ≡ length ranks) (place : ℕ) (name : List ℕ) where
  pub added_at : IsRising bytes_cmp ranks → (k : ℕ) → slice_get ranks k ≡ Some name → (r : ℕ) (q : List ℕ)
      → slice_get ranks r ≡ Some q → (j : ℕ)
      → Contains (get_or (with_item lists k place) r []) j ↔ (Contains (get_or lists r []) j ⊎ ((j ≡ place) × (q ≡ name)))
  added_at rising k is r q f j = (
    λ c. ⊎_elim inl (λ s. inr (s.1, same_Some q name (sym f ∙ ap (slice_get ranks) s.0 ∙ is))) ((both r j).0 c),
    λ h. (both r j).1 (⊎_elim inl (λ s. inr (one_place bytes_cmp nat_list_cmp_total ranks rising r k name (f ∙ ap Some s.1) is, s.0)) h),
  )
    where
      both : (r j : ℕ) → Contains (get_or (with_item lists k place) r []) j ↔ (Contains (get_or lists r []) j ⊎ ((r ≡ k) × (j ≡ place)))
      both = pushed lists k place (let l = slice_get_within ranks k name is in omega (arith, size, l))

  pub added_nowhere : (Contains ranks name → ⊥) → (r : ℕ) (q : List ℕ) → slice_get ranks r ≡ Some q → (j : ℕ)
      → Contains (get_or lists r []) j ↔ (Contains (get_or lists r []) j ⊎ ((j ≡ place) × (q ≡ name)))
  added_nowhere none r q f j =
      (inl, λ h. ⊎_elim (λ c. c) (λ s. absurd (none (r, slice_get_within ranks r q f, get_or_from_slice_get ranks r q name f ∙ s.1))) h)

-- ---- the names of one protocol

pub names_more : (items : List Declaration) (i : ℕ) (place j : ℕ) (item : Declaration) (q : List ℕ) {New Old First : Type 0}
    → i < length items → item ≡ get_or items i item
    → (New ↔ (Old ⊎ ((j ≡ place) × (q ≡ item.name)))) → (Old ↔ (First ⊎ ((j ≡ place) × Contains (names_of (take i items)) q)))
    → New ↔ (First ⊎ ((j ≡ place) × Contains (names_of (take (i + 1) items)) q))
names_more items i place j item q {New} {Old} {First} h e one before = (to, from)
  where
    more : names_of (take (i + 1) items) ≡ names_of (take i items) ++ item.name ∷ []
    more = sym (mapped_more (λ (d : Declaration). d.name) items i item item.name (names_of (take i items))
        (names_of (take i items) ++ item.name ∷ []) h e refl refl refl)

    to : New → First ⊎ ((j ≡ place) × Contains (names_of (take (i + 1) items)) q)
    to n =
        ⊎_elim
        (λ o. ⊎_elim inl (λ s. inr
        (s.0, subst (λ xs. Contains xs q) (sym more) (Contains-append_left (names_of (take i items)) (item.name ∷ []) q s.1))) (before.0 o))
        (λ s. inr (
          s.0,
          subst (λ xs. Contains xs q) (sym more) (subst (λ x. Contains (names_of (take i items) ++ item.name ∷ []) x) (sym s.1)
              (Contains-push (names_of (take i items)) item.name)),
        )) (one.0 n)

    from : First ⊎ ((j ≡ place) × Contains (names_of (take (i + 1) items)) q) → New
    from g =
        ⊎_elim (λ f. one.1 (inl (before.1 (inl f))))
        (λ s. ⊎_elim (λ c. one.1 (inl (before.1 (inr (s.0, c))))) (λ t. one.1 (inr (s.0, sym t)))
        (Contains-push_cases (names_of (take i items)) item.name q (subst (λ xs. Contains xs q) more s.1))) g

pub no_names : (items : List Declaration) (place j : ℕ) (q : List ℕ) {First : Type 0}
    → First ↔ (First ⊎ ((j ≡ place) × Contains (names_of (take 0 items)) q))
no_names items place j q = (inl, λ h. ⊎_elim (λ f. f) (λ s. no_member q s.1) h)

pub all_names_in : (items : List Declaration) (i place j : ℕ) (q : List ℕ) {New First : Type 0} → length items ≤ i
    → New ↔ (First ⊎ ((j ≡ place) × Contains (names_of (take i items)) q)) → New ↔ (First ⊎ ((j ≡ place) × Contains (names_of items) q))
all_names_in items i place j q {New} {First} h e =
    subst (λ (xs : List Declaration). New ↔ (First ⊎ ((j ≡ place) × Contains (names_of xs) q))) (take_all i items h) e

-- ---- the names of all protocols

module _ (members : List (List Declaration)) (q : List ℕ) (j : ℕ) where
  pub none_yet : (list : List ℕ) → list ≡ [] → Contains list j ↔ ((j < 0) × Contains (names_of (get_or members j [])) q)
  none_yet list e = (λ c. no_member j (subst (λ xs. Contains xs j) e c), λ s. absurd (let h = s.0 in omega arith))

  pub members_more : (i : ℕ) (names : List (List ℕ)) {New Old : Type 0} → names ≡ names_of (get_or members i [])
      → (New ↔ (Old ⊎ ((j ≡ i) × Contains names q))) → (Old ↔ ((j < i) × Contains (names_of (get_or members j [])) q))
      → New ↔ ((j < i + 1) × Contains (names_of (get_or members j [])) q)
  members_more i names {New} {Old} e one before = (to, from)
    where
      to : New → (j < i + 1) × Contains (names_of (get_or members j [])) q
      to n =
          ⊎_elim (λ o. let s = before.0 o in let l = s.0 in (omega arith, s.1))
          (λ s. let k = s.0 in (omega arith, subst (λ xs. Contains xs q) (e ∙ ap (λ x. names_of (get_or members x [])) (sym s.0)) s.1))
          (one.0 n)

      below : j < i + 1 → (j ≡ i → ⊥) → j < i
      below h n = omega arith

      from : (j < i + 1) × Contains (names_of (get_or members j [])) q → New
      from s =
          ⊎_elim (λ k. one.1 (inr (k, subst (λ xs. Contains xs q) (ap (λ x. names_of (get_or members x [])) k ∙ sym e) s.1)))
          (λ n. one.1 (inl (before.1 (below s.0 n, s.1)))) (cases_eq j i)

  pub all_members : (i : ℕ) {New : Type 0} → length members ≤ i → New ↔ ((j < i) × Contains (names_of (get_or members j [])) q)
      → New ↔ Contains (names_of (get_or members j [])) q
  all_members i {New} h e = (λ n. (e.0 n).1, λ c. e.1 (below c, c))
    where
      there : (k n m : ℕ) → k < n → n ≤ m → k < m
      there k n m h g = omega arith

      below : Contains (names_of (get_or members j [])) q → j < i
      below c =
          ⊎_elim (λ l. there j (length members) i l h) (λ l. no_member q
          (subst (λ (xs : List Declaration). Contains (names_of xs) q) (get_or_past members j [] l) c)) (cases_lt j (length members))

pub gathered_more : (members : List (List Declaration)) (all new names : List (List ℕ)) (i : ℕ) → new ≡ all ++ names
    → names ≡ names_of (get_or members i [])
    → ((j : ℕ) (q : List ℕ) → j < i → Contains (names_of (get_or members j [])) q → Contains all q)
    → (j : ℕ) (q : List ℕ) → j < i + 1 → Contains (names_of (get_or members j [])) q → Contains new q
gathered_more members all new names i e n before j q h c =
    subst (λ xs. Contains xs q) (sym e)
    (⊎_elim (λ k. Contains-append_right all names q (subst (λ xs. Contains xs q) (ap (λ x. names_of (get_or members x [])) k ∙ sym n) c))
    (λ k. Contains-append_left all names q (before j q (below j i h k) c)) (cases_eq j i))

pub all_gathered : (members : List (List Declaration)) (all : List (List ℕ)) (i : ℕ) → length members ≤ i
    → ((j : ℕ) (q : List ℕ) → j < i → Contains (names_of (get_or members j [])) q → Contains all q) → (j : ℕ) (q : List ℕ)
    → Contains (names_of (get_or members j [])) q → Contains all q
all_gathered members all i h before j q c =
    ⊎_elim (λ l. before j q (there j (length members) i l h) c) (λ l.
    no_member q (subst (λ (xs : List Declaration). Contains (names_of xs) q) (get_or_past members j [] l) c)) (cases_lt j (length members))
  where
    there : (k n m : ℕ) → k < n → n ≤ m → k < m
    there k n m h g = omega arith
