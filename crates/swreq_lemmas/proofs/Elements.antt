-- Elements of lists, by their places: of two lists one after the other, of a list with one more at its end or with one changed, of the
-- front of a list, and of a list with a function applied to each.
use Rattle.std.proofs.Common.{◌≡◌, ◌⊎◌, inl, inr, ℕ, zero, suc, ◌+◌, ◌<◌, List, [], ◌∷◌, ◌++◌, length, map, drop, take, refl, sym, ap, ◌∙◌, arith, Some, Contains}
use Rattle.std.specs.List.{slice_get}
use Rattle.std.proofs.Math.ListN.{set}
use Rattle.std.proofs.lemmas.List.{drop_more}
use Rattle.std.proofs.lemmas.Option.{slice_get_within, slice_get_read, get_or_from_slice_get}

-- ---- an element, and where it stands

pub get_contains : {A : Type 0} (xs : List A) (k : ℕ) (x : A) → slice_get xs k ≡ Some x → Contains xs x
get_contains xs k x e = (k, slice_get_within xs k x e, get_or_from_slice_get xs k x x e)

pub contains_get : {A : Type 0} (xs : List A) (x : A) → Contains xs x → (k : ℕ) × (slice_get xs k ≡ Some x)
contains_get xs x (k, l, e) = (k, slice_get_read xs (length xs) k x refl l (sym e))

pub there_is : {A : Type 0} (xs : List A) (k : ℕ) → k < length xs → (x : A) × (slice_get xs k ≡ Some x)
there_is [] k l = absurd (omega (arith, l))
there_is (x ∷ xs) zero l = (x, refl)
there_is (x ∷ xs) (suc k) l = there_is xs k (omega (arith, l))

-- an element of a list that another follows
pub get_left : {A : Type 0} (xs ys : List A) (k : ℕ) (x : A) → slice_get xs k ≡ Some x → slice_get (xs ++ ys) k ≡ Some x
get_left [] ys k x e = cc
get_left (y ∷ xs) ys zero x e = e
get_left (y ∷ xs) ys (suc k) x e = get_left xs ys k x e

-- the element that is put last
pub get_last : {A : Type 0} (xs : List A) (x : A) → slice_get (xs ++ x ∷ []) (length xs) ≡ Some x
get_last [] x = refl
get_last (y ∷ xs) x = get_last xs x

pub get_cases : {A : Type 0} (xs : List A) (y : A) (k : ℕ) (x : A) → slice_get (xs ++ y ∷ []) k ≡ Some x
    → (slice_get xs k ≡ Some x) ⊎ ((k ≡ length xs) × (x ≡ y))
get_cases [] y zero x e = inr (refl, cc)
get_cases [] y (suc k) x e = cc
get_cases (z ∷ xs) y zero x e = inl e
get_cases (z ∷ xs) y (suc k) x e = elim (get_cases xs y k x e) [ inl h ↦ inl h | inr h ↦ inr (ap suc h.0, h.1) ]

-- an element of two lists, one after the other
pub get_front : {A : Type 0} (xs ys : List A) (k : ℕ) (x : A) → k < length xs → slice_get (xs ++ ys) k ≡ Some x → slice_get xs k ≡ Some x
get_front [] ys k x l e = absurd (omega (arith, l))
get_front (y ∷ xs) ys zero x l e = e
get_front (y ∷ xs) ys (suc k) x l e = get_front xs ys k x (omega (arith, l)) e

pub get_after : {A : Type 0} (xs ys : List A) (k : ℕ) → slice_get (xs ++ ys) (length xs + k) ≡ slice_get ys k
get_after [] ys k = let e : 0 + k ≡ k = omega arith in ap (slice_get ys) e
get_after (x ∷ xs) ys k =
    let e : length (x ∷ xs) + k ≡ suc (length xs + k) = omega arith in
    ap (slice_get (x ∷ (xs ++ ys))) e ∙ get_after xs ys k

pub get_right : {A : Type 0} (xs ys : List A) (k : ℕ) (x : A) → slice_get ys k ≡ Some x → (n : ℕ) × (slice_get (xs ++ ys) n ≡ Some x)
get_right [] ys k x e = (k, e)
get_right (y ∷ xs) ys k x e = let r = get_right xs ys k x e in (suc r.0, r.1)

pub get_either : {A : Type 0} (xs ys : List A) (k : ℕ) (x : A) → slice_get (xs ++ ys) k ≡ Some x
    → (slice_get xs k ≡ Some x) ⊎ ((j : ℕ) × (k ≡ length xs + j) × (slice_get ys j ≡ Some x))
get_either [] ys k x e = inr (k, omega arith, e)
get_either (y ∷ xs) ys zero x e = inl e
get_either (y ∷ xs) ys (suc k) x e =
    elim (get_either xs ys k x e) [ inl h ↦ inl h | inr h ↦ inr (h.0, (let f = h.1 in omega (arith, f)), h.2) ]

-- what stands in the front stands in the list
pub in_whole : {A : Type 0} (xs : List A) (n k : ℕ) (x : A) → slice_get (take n xs) k ≡ Some x → slice_get xs k ≡ Some x
in_whole [] zero k x e = cc
in_whole [] (suc n) k x e = cc
in_whole (y ∷ xs) zero k x e = cc
in_whole (y ∷ xs) (suc n) zero x e = e
in_whole (y ∷ xs) (suc n) (suc k) x e = in_whole xs n k x e

pub in_front : {A : Type 0} (xs : List A) (n k : ℕ) (x : A) → k < n → slice_get xs k ≡ Some x → slice_get (take n xs) k ≡ Some x
in_front xs zero k x l e = absurd (omega (arith, l))
in_front [] (suc n) k x l e = e
in_front (y ∷ xs) (suc n) zero x l e = e
in_front (y ∷ xs) (suc n) (suc k) x l e = in_front xs n k x (omega (arith, l)) e

pub take_one : {A : Type 0} (xs : List A) (k : ℕ) (x : A) → slice_get xs k ≡ Some x → take (suc k) xs ≡ take k xs ++ x ∷ []
take_one [] k x e = cc
take_one (y ∷ xs) zero x e = let h : y ≡ x = cc in ap (λ z. z ∷ []) h
take_one (y ∷ xs) (suc k) x e = ap (λ zs. y ∷ zs) (take_one xs k x e)

-- a function applied to each
-- what is left from a place on begins with the element there
pub drop_from : {A : Type 0} (xs : List A) (k : ℕ) (x : A) → slice_get xs k ≡ Some x → drop k xs ≡ x ∷ drop (k + 1) xs
drop_from xs k x e = drop_more xs k x (slice_get_within xs k x e) ∙ ap (λ z. z ∷ drop (k + 1) xs) (get_or_from_slice_get xs k x x e)

pub get_map : {A B : Type 0} (f : A → B) (xs : List A) (k : ℕ) (x : A) → slice_get xs k ≡ Some x → slice_get (map f xs) k ≡ Some (f x)
get_map f [] k x e = cc
get_map f (y ∷ xs) zero x e = let h : y ≡ x = cc in ap (λ z. Some (f z)) h
get_map f (y ∷ xs) (suc k) x e = get_map f xs k x e

pub get_of_map : {A B : Type 0} (f : A → B) (xs : List A) (k : ℕ) (y : B) → slice_get (map f xs) k ≡ Some y
    → (x : A) × (slice_get xs k ≡ Some x) × (f x ≡ y)
get_of_map f [] k y e = cc
get_of_map f (x ∷ xs) zero y e = (x, refl, cc)
get_of_map f (x ∷ xs) (suc k) y e = get_of_map f xs k y e

-- ---- one element changed

pub set_here : {A : Type 0} (xs : List A) (k : ℕ) (x : A) → k < length xs → slice_get (set xs k x) k ≡ Some x
set_here [] k x l = absurd (omega (arith, l))
set_here (y ∷ xs) zero x l = refl
set_here (y ∷ xs) (suc k) x l = set_here xs k x (omega (arith, l))

-- what stands elsewhere stays
pub set_kept : {A : Type 0} (xs : List A) (k : ℕ) (x : A) (n : ℕ) (y : A) → slice_get xs n ≡ Some y
    → (slice_get (set xs k x) n ≡ Some y) ⊎ ((n ≡ k) × (slice_get (set xs k x) n ≡ Some x))
set_kept [] k x n y e = inl e
set_kept (z ∷ xs) zero x zero y e = inr (refl, refl)
set_kept (z ∷ xs) zero x (suc n) y e = inl e
set_kept (z ∷ xs) (suc k) x zero y e = inl e
set_kept (z ∷ xs) (suc k) x (suc n) y e = elim (set_kept xs k x n y e) [ inl h ↦ inl h | inr h ↦ inr (ap suc h.0, h.1) ]

-- what stands somewhere stood there, or is new
pub set_cases : {A : Type 0} (xs : List A) (k : ℕ) (x : A) (n : ℕ) (y : A) → slice_get (set xs k x) n ≡ Some y
    → (slice_get xs n ≡ Some y) ⊎ ((n ≡ k) × (y ≡ x))
set_cases [] k x n y e = inl e
set_cases (z ∷ xs) zero x zero y e = inr (refl, cc)
set_cases (z ∷ xs) zero x (suc n) y e = inl e
set_cases (z ∷ xs) (suc k) x zero y e = inl e
set_cases (z ∷ xs) (suc k) x (suc n) y e = elim (set_cases xs k x n y e) [ inl h ↦ inl h | inr h ↦ inr (ap suc h.0, h.1) ]

-- ---- lists of one more element that are equal

pub same_heads : {A : Type 0} {x y : A} {xs ys : List A} → x ∷ xs ≡ y ∷ ys → x ≡ y
same_heads e = cc

pub same_tails : {A : Type 0} {x y : A} {xs ys : List A} → x ∷ xs ≡ y ∷ ys → xs ≡ ys
same_tails e = cc
