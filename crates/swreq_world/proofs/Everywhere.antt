-- What holds of each item of a list, and of the items of its parts.
use Rattle.std.proofs.Common.{◌≡◌, ℕ, zero, suc, ◌+◌, List, [], ◌∷◌, ◌++◌, Some, None, get_or, map, slice_get, unwrap_or, refl, sym, ap, subst, ◌∙◌, arith}
use Rattle.std.proofs.lemmas.List.Elements.{All-nil, All-cons, All-head, All-tail, All-append}
use Rattle.std.proofs.lemmas.Option.{slice_get-map, slice_get_within, get_or_from_slice_get, unwrap_or-slice_get, same_Some}
use Rattle.std.specs.List.{All, flat_map}
use Rattle.std.specs.Option.{option_map}
use Rattle.swreq_resolve.specs.Refusals.{by_place}

module _ {A : Type 0} (P : A → Type 0) where
  pub all_left : (xs ys : List A) → All P (xs ++ ys) → All P xs
  all_left [] ys h = All-nil P
  all_left (x ∷ xs) ys h = All-cons P x xs (All-head P x (xs ++ ys) h) (all_left xs ys (All-tail P x (xs ++ ys) h))

  pub all_right : (xs ys : List A) → All P (xs ++ ys) → All P ys
  all_right [] ys h = h
  all_right (x ∷ xs) ys h = all_right xs ys (All-tail P x (xs ++ ys) h)

  pub all_at : (xs : List A) (i : ℕ) (x : A) → All P xs → slice_get xs i ≡ Some x → P x
  all_at xs i x h e = subst P (get_or_from_slice_get xs i x x e) (h i x (slice_get_within xs i x e))

  pub each_mapped : {B : Type 0} (f : B → A) (xs : List B) → All P (map f xs) → All (λ x. P (f x)) xs
  each_mapped f [] h = All-nil (λ x. P (f x))
  each_mapped f (x ∷ xs) h = All-cons (λ y. P (f y)) x xs (All-head P (f x) (map f xs) h) (each_mapped f xs (All-tail P (f x) (map f xs) h))

-- the pieces of items
module _ {A B : Type 0} (P : B → Type 0) where
  pub all_in_pieces : (Q : A → Type 0) (f : A → List B) (xs : List A) → ((x : A) → Q x → All P (f x)) → All Q xs → All P (flat_map f xs)
  all_in_pieces Q f [] g h = All-nil P
  all_in_pieces Q f (x ∷ xs) g h = All-append P (f x) (flat_map f xs) (g x (All-head Q x xs h)) (all_in_pieces Q f xs g (All-tail Q x xs h))

  pub each_piece : (f : A → List B) (xs : List A) → All P (flat_map f xs) → All (λ x. All P (f x)) xs
  each_piece f [] h = All-nil (λ x. All P (f x))
  each_piece f (x ∷ xs) h =
      All-cons (λ y. All P (f y)) x xs (all_left P (f x) (flat_map f xs) h) (each_piece f xs (all_right P (f x) (flat_map f xs) h))

  pub placed_piece : (f : ℕ → A → List B) (i : ℕ) (xs : List A) (n m : ℕ) (x : A) → i + n ≡ m → slice_get xs n ≡ Some x
      → All P (by_place f i xs) → All P (f m x)
  placed_piece f i [] n m x e s h = absurd cc
  placed_piece f i (y ∷ ys) zero m x e s h =
      let at : i ≡ m = omega arith in
      subst (λ z. All P (f m z)) (same_Some y x s) (subst (λ j. All P (f j y)) at (all_left P (f i y) (by_place f (i + 1) ys) h))
  placed_piece f i (y ∷ ys) (suc n) m x e s h =
      placed_piece f (i + 1) ys n m x (omega arith) s (all_right P (f i y) (by_place f (i + 1) ys) h)

-- ---- what stands in a mapped list

module _ {A B : Type 0} (f : A → B) where
  pub stands_mapped : (xs : List A) (i : ℕ) (x : A) → slice_get xs i ≡ Some x → slice_get (map f xs) i ≡ Some (f x)
  stands_mapped xs i x e = slice_get-map f xs i ∙ ap (option_map f) e

  pub at_mapped : (xs : List A) (i : ℕ) (x : A) (d : B) → slice_get xs i ≡ Some x → get_or (map f xs) i d ≡ f x
  at_mapped xs i x d e = get_or_from_slice_get (map f xs) i (f x) d (stands_mapped xs i x e)

  pub past_mapped : (xs : List A) (i : ℕ) (d : B) → slice_get xs i ≡ None → get_or (map f xs) i d ≡ d
  past_mapped xs i d e = sym (unwrap_or-slice_get (map f xs) i d) ∙ ap (λ o. unwrap_or o d) (slice_get-map f xs i ∙ ap (option_map f) e)

  pub mapped_from : (xs : List A) (i : ℕ) (y : B) → slice_get (map f xs) i ≡ Some y → (x : A) × (slice_get xs i ≡ Some x) × (f x ≡ y)
  mapped_from [] i y e = absurd cc
  mapped_from (x ∷ xs) zero y e = (x, refl, same_Some (f x) y e)
  mapped_from (x ∷ xs) (suc i) y e = mapped_from xs i y e
