-- The place of the first item that passes a test.
use Rattle.std.proofs.Common.{◌≡◌, ℕ, ◌<◌, Bool, true, false, cond, List, length, get_or, slice_get, Some, None, unwrap_or, nat_lt, Contains, refl, sym, ap, subst, ◌∙◌, arith}
use Rattle.std.specs.List.{position, position_or_len}
use Rattle.std.specs.Cmp.Lexicographic.{same_text, texts_ties, nat_list_eq_equiv}
use Rattle.std.specs.declared.cmp.Ordering.TheVariants.{Less}
use Rattle.std.specs.Ordering.{is_eq, ordering_reverse}
use Rattle.std.proofs.lemmas.List.Sums.{position_or_len_is, fails_before_first}
use Rattle.std.proofs.lemmas.Bool.{lt-ltb, le-ltb, ltb-false, false_from_ne_true}
use Rattle.std.proofs.lemmas.Cmp.{nat_list_cmp_total}
use Rattle.std.specs.Str.{bytes_eq}
use Rattle.std.proofs.lemmas.Option.{slice_get_within, get_or_from_slice_get}
use Rattle.swreq_rank.specs.Ranks.{Bytes, bytes_cmp, rank}
use Rattle.swreq_rank.proofs.Rising.{IsRising}

module _ {X : Type 0} (p : X → Bool) (xs : List X) where
  pub is_first : (i : ℕ) (d : X) → i < length xs → p (get_or xs i d) ≡ true → ((k : ℕ) → k < i → p (get_or xs k d) ≡ false)
      → position p xs ≡ Some i
  is_first i d l t before =
      let e : position_or_len p xs ≡ i = position_or_len_is p xs i d (omega arith) before (λ l. t) in
      ap (λ n. cond (nat_lt n (length xs)) (Some n) None) e ∙ ap (λ b. cond b (Some i) None) (lt-ltb i (length xs) l)

  pub is_none : (d : X) → ((k : ℕ) → k < length xs → p (get_or xs k d) ≡ false) → position p xs ≡ None
  is_none d all =
      let e : position_or_len p xs ≡ length xs = position_or_len_is p xs (length xs) d (omega arith) all (λ l. absurd (omega arith)) in
      ap (λ n. cond (nat_lt n (length xs)) (Some n) None) e
      ∙ ap (λ b. cond b (Some (length xs)) None) (le-ltb (length xs) (length xs) (omega arith))

-- ---- no place

pub none_by : (b : Bool) (n : ℕ) → cond b (Some n) None ≡ None → b ≡ false
none_by true n h = absurd cc
none_by false n h = refl

pub fails_all : {X : Type 0} (p : X → Bool) (xs : List X) → position p xs ≡ None → (k : ℕ) (d : X) → k < length xs
    → p (get_or xs k d) ≡ false
fails_all p xs h k d l =
    let g = ltb-false (position_or_len p xs) (length xs) (none_by (nat_lt (position_or_len p xs) (length xs)) (position_or_len p xs) h) in
    fails_before_first p xs k d (omega arith)

-- ---- names

less_is_other : (v w : Bytes) → bytes_cmp v w ≡ Less → bytes_eq w v ≡ false
less_is_other v w h = texts_ties w v ∙ ap is_eq (nat_list_cmp_total.antisymm w v ∙ ap ordering_reverse h)

pub rank_place : (names : List Bytes) (w : Bytes) (i : ℕ) → IsRising bytes_cmp names → slice_get names i ≡ Some w
    → position (bytes_eq w) names ≡ Some i
rank_place names w i r h =
    let l = slice_get_within names i w h in
    is_first (bytes_eq w) names i w l
    (subst (λ v. bytes_eq w v ≡ true) (sym (get_or_from_slice_get names i w w h)) (nat_list_eq_equiv.refl w))
    (λ k b. less_is_other (get_or names k w) w
    (subst (λ v. bytes_cmp (get_or names k w) v ≡ Less) (get_or_from_slice_get names i w w h) (r k i w b l)))

pub no_place : (names : List Bytes) (w : Bytes) → (Contains names w → ⊥) → position (bytes_eq w) names ≡ None
no_place names w h = is_none (bytes_eq w) names w
    (λ k l. false_from_ne_true (bytes_eq w (get_or names k w)) (λ t. h (k, l, sym (same_text w (get_or names k w) (sym t)))))

pub rank_of_there : (names : List Bytes) (w : Bytes) (i : ℕ) → IsRising bytes_cmp names → slice_get names i ≡ Some w → i ≡ rank names w
rank_of_there names w i r h = sym (ap (λ o. unwrap_or o 0) (rank_place names w i r h))

pub rank_of_none : (names : List Bytes) (w : Bytes) → (Contains names w → ⊥) → 0 ≡ rank names w
rank_of_none names w h = sym (ap (λ o. unwrap_or o 0) (no_place names w h))
