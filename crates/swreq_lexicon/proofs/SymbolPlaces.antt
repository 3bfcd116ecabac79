-- The places of member symbols.
use Rattle.std.proofs.Common.{◌≡◌, ℕ, zero, suc, ◌+◌, ◌*◌, ◌<◌, ◌≤◌, ⊎_elim, Bool, true, false, cond, List, [], ◌∷◌, ◌++◌, length, get_or, slice_get, take, sum, Some, refl, sym, ap, subst, ◌∙◌, arith, add-one, length-append}
use Rattle.std.specs.List.{filter}
use Rattle.std.specs.Option.{option_map}
use Rattle.std.proofs.lemmas.Bool.{cases_lt}
use Rattle.std.proofs.lemmas.List.{length-map, get_or_past}
use Rattle.std.proofs.lemmas.List.Sums.{sum_by_more, length-filter, count_by-le-length}
use Rattle.std.proofs.lemmas.Option.{slice_get-map}
use Rattle.swreq_rank.proofs.swreq_lemmas.Elements.{get_after}
use Rattle.swreq_derive.specs.swreq_param.declared.ids.NameId.{NameId}
use Rattle.swreq_derive.specs.swreq_param.declared.ids.ProtoId.{ProtoId}
use Rattle.swreq_lexicon.specs.Associated.{name}
use Rattle.swreq_lexicon.specs.Lexicons.{pair}
use Rattle.swreq_lexicon.specs.Symbols.{having, symbols_of, symbols_below, AreCounts, AreStarts}

-- ---- places in parts

pub get_left : {A : Type 0} (xs ys : List A) (i : ℕ) → i < length xs → slice_get (xs ++ ys) i ≡ slice_get xs i
get_left [] ys i h = absurd (omega arith)
get_left (x ∷ xs) ys zero h = refl
get_left (x ∷ xs) ys (suc i) h = get_left xs ys i (omega arith)

-- an item that passes a test stands, among those that pass, after those that pass before it
pub filter_place : {A : Type 0} (p : A → Bool) (xs : List A) (i : ℕ) (d : A) → i < length xs → p (get_or xs i d) ≡ true
    → slice_get (filter p xs) (length (filter p (take i xs))) ≡ Some (get_or xs i d)
filter_place p [] i d h e = absurd (omega arith)
filter_place p (x ∷ xs) zero d h e = ap (λ b. slice_get (cond b (x ∷ filter p xs) (filter p xs)) 0) e
filter_place p (x ∷ xs) (suc i) d h e = by (p x) (filter_place p xs i d (omega arith) e)
  where
    by : (b : Bool) → slice_get (filter p xs) (length (filter p (take i xs))) ≡ Some (get_or xs i d)
        → slice_get (cond b (x ∷ filter p xs) (filter p xs)) (length (cond b (x ∷ filter p (take i xs)) (filter p (take i xs))))
        ≡ Some (get_or xs i d)
    by true r = r
    by false r = r

module _ (order : List ProtoId) (has : ProtoId → NameId → Bool) where
  pub length_of : (a : NameId) → length (symbols_of order has a) ≡ length (having order has a)
  length_of a = length-map (having order has a) (λ p. pair p a)

  pub having_le : (a : NameId) → length (having order has a) ≤ length order
  having_le a = subst (λ n. n ≤ length order) (sym (length-filter (λ p. has p a) order)) (count_by-le-length (λ p. has p a) order)

  pub length_more : (n : ℕ)
      → length (symbols_below order has (suc n)) ≡ length (symbols_below order has n) + length (having order has (name n))
  length_more n = length-append (symbols_below order has n) (symbols_of order has (name n))
      ∙ ap (λ k. length (symbols_below order has n) + k) (length_of (name n))

  pub length_below : (n : ℕ) → length order ≤ 1048576 → length (symbols_below order has n) ≤ n * 1048576
  length_below zero h = omega arith
  length_below (suc n) h =
      let l = length_below n h in
      let m = length_more n in
      let k = having_le (name n) in
      omega (arith, l, m, k, h)

  at_zero : (n : ℕ) → n ≤ 0 → 0 ≡ n
  at_zero n h = omega arith

  at_end : (n m : ℕ) → n ≤ suc m → suc m ≤ n → suc m ≡ n
  at_end n m h e = omega arith

  at_most : (n m : ℕ) → n < suc m → n ≤ m
  at_most n m h = omega arith

  same_le : (a b : ℕ) → a ≡ b → a ≤ b
  same_le a b e = omega arith

  longer_more : (n m : ℕ) → length (symbols_below order has n) ≤ length (symbols_below order has m)
      → length (symbols_below order has n) ≤ length (symbols_below order has (suc m))
  longer_more n m h = let e = length_more m in omega (arith, e, h)

  longer : (n m : ℕ) → n ≤ m → length (symbols_below order has n) ≤ length (symbols_below order has m)
  longer n zero h = same_le (length (symbols_below order has n)) 0 (ap (λ k. length (symbols_below order has k)) (sym (at_zero n h)))
  longer n (suc m) h =
      ⊎_elim (λ b. longer_more n m (longer n m (at_most n m b)))
      (λ e. same_le (length (symbols_below order has n)) (length (symbols_below order has (suc m)))
      (ap (λ k. length (symbols_below order has k)) (sym (at_end n m h e)))) (cases_lt n (suc m))

  -- member symbols of names below a name keep their places
  kept_more : (n m i : ℕ) → n ≤ m → i < length (symbols_below order has n)
      → slice_get (symbols_below order has m) i ≡ slice_get (symbols_below order has n) i
      → slice_get (symbols_below order has (suc m)) i ≡ slice_get (symbols_below order has n) i
  kept_more n m i h l before =
      let g = longer n m h in get_left (symbols_below order has m) (symbols_of order has (name m)) i (omega (arith, g, l)) ∙ before

  kept : (n m i : ℕ) → n ≤ m → i < length (symbols_below order has n)
      → slice_get (symbols_below order has m) i ≡ slice_get (symbols_below order has n) i
  kept n zero i h l = ap (λ k. slice_get (symbols_below order has k) i) (at_zero n h)
  kept n (suc m) i h l =
      ⊎_elim (λ b. kept_more n m i (at_most n m b) l (kept n m i (at_most n m b) l))
      (λ e. ap (λ k. slice_get (symbols_below order has k) i) (at_end n m h e)) (cases_lt n (suc m))

  -- the place of the member symbol of the k-th protocol that has the a-th name
  pub symbol_at : (n a k : ℕ) (p : ProtoId) → a < n → k < length (having order has (name a))
      → slice_get (having order has (name a)) k ≡ Some p
      → slice_get (symbols_below order has n) (length (symbols_below order has a) + k) ≡ Some (pair p (name a))
  symbol_at n a k p h l e =
      let m = length_more a in
      let within : length (symbols_below order has a) + k < length (symbols_below order has (suc a)) = omega (arith, m, l) in
      kept (suc a) n (length (symbols_below order has a) + k) (next a n h) within
      ∙ get_after (symbols_below order has a) (symbols_of order has (name a)) k
      ∙ slice_get-map (λ q. pair q (name a)) (having order has (name a)) k
      ∙ ap (option_map (λ q. pair q (name a))) e
    where
      next : (a n : ℕ) → a < n → suc a ≤ n
      next a n h = omega arith

  -- ---- where the names begin

  module _ (n : ℕ) (counts : List ℕ) (are : AreCounts order has n counts) where
    pub sums : (a : ℕ) → a ≤ n → sum (take a counts) ≡ length (symbols_below order has a)
    sums zero h = refl
    sums (suc a) h =
        let size = are.count in
        let below : a < n = omega arith in
        let within : a < length counts = omega (arith, size) in
        let before = sums a (omega arith) in
        ap (λ k. sum (take k counts)) (sym (add-one a))
        ∙ sum_by_more (λ x. x) counts a 0 within
        ∙ (λ i. before i + (are.each a below ∙ length_of (name a)) i)
        ∙ sym (length_more a)

    pub counts_small : length order ≤ 1048576 → (a : ℕ) → get_or counts a 0 ≤ 1048576
    counts_small few a = ⊎_elim (λ h. let e = are.each a h in let l = length_of (name a) in let k = having_le (name a) in
        omega (arith, e, l, k, few)) (λ h. let e = are.count in small (get_or_past counts a 0 (past h e))) (cases_lt a n)
      where
        past : n ≤ a → length counts ≡ n → length counts ≤ a
        past h e = omega arith

        small : get_or counts a 0 ≡ 0 → get_or counts a 0 ≤ 1048576
        small e = omega (arith, e)

  pub starts_are : (n : ℕ) (counts starts : List ℕ) → AreCounts order has n counts → length starts ≡ length counts + 1
      → ((a : ℕ) → a ≤ length counts → get_or starts a 0 ≡ sum (take a counts)) → AreStarts order has n starts
  starts_are n counts starts are len each =
      let size = are.count in record {
        count = omega (arith, size, len);
        each = λ a h. each a (subst (λ k. a ≤ k) (sym size) h) ∙ sums n counts are a h;
      }
