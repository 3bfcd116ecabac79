-- A list that is made of pieces, one for each element.
use Rattle.std.proofs.Common.{◌≡◌, ⊎_elim, ℕ, ◌+◌, ◌<◌, List, [], ◌∷◌, ◌++◌, length, get_or, take, map, Contains, refl, sym, ap, subst, ◌∙◌, append_assoc, append-nil}
use Rattle.std.specs.List.{flat_map}
use Rattle.std.proofs.lemmas.List.{take_more, map-append}
use Rattle.std.proofs.lemmas.List.Concat.{flat_map-append}
use Rattle.std.proofs.lemmas.List.Elements.{Contains-append_left, Contains-append_right, Contains-append_cases}
use Rattle.swreq_rank.proofs.swreq_lemmas.Members.{no_member, first_member, later_member, member_cases}

pub pieces_more : {A B : Type 0} (g : A → List B) (xs : List A) (i : ℕ) (x : A) (start into new : List B)
    → i < length xs → x ≡ get_or xs i x
    → into ≡ start ++ flat_map g (take i xs) → new ≡ into ++ g x → new ≡ start ++ flat_map g (take (i + 1) xs)
pieces_more g xs i x start into new h e inv k =
    k ∙ ap (λ ys. ys ++ g x) inv ∙ append_assoc start (flat_map g (take i xs)) (g x)
    ∙ ap (λ ys. start ++ ys)
    ((λ j. flat_map g (take i xs) ++ g (e j)) ∙ ap (λ ys. flat_map g (take i xs) ++ ys) (sym (append-nil (g (get_or xs i x))))
    ∙ sym (flat_map-append g (take i xs) (get_or xs i x ∷ [])) ∙ ap (flat_map g) (sym (take_more xs i x h)))

-- a list with one item for each element of another list, made one item after another
pub mapped_more : {A B : Type 0} (f : A → B) (xs : List A) (i : ℕ) (x : A) (y : B) (old new : List B) → i < length xs → x ≡ get_or xs i x
    → new ≡ old ++ y ∷ [] → y ≡ f x → old ≡ map f (take i xs) → new ≡ map f (take (i + 1) xs)
mapped_more f xs i x y old new h e k l o =
    k ∙ (λ j. o j ++ l j ∷ []) ∙ (λ j. map f (take i xs) ++ f (e j) ∷ []) ∙ sym (map-append f (take i xs) (get_or xs i x ∷ []))
    ∙ ap (map f) (sym (take_more xs i x h))

-- the same, after items that were there before
pub mapped_onto_more : {A B : Type 0} (f : A → B) (xs : List A) (i : ℕ) (x : A) (y : B) (start old new : List B)
    → i < length xs → x ≡ get_or xs i x
    → new ≡ old ++ y ∷ [] → y ≡ f x → old ≡ start ++ map f (take i xs) → new ≡ start ++ map f (take (i + 1) xs)
mapped_onto_more f xs i x y start old new h e k l o =
    k ∙ ap (λ ys. ys ++ y ∷ []) o ∙ append_assoc start (map f (take i xs)) (y ∷ [])
    ∙ ap (λ ys. start ++ ys) (mapped_more f xs i x y (map f (take i xs)) (map f (take i xs) ++ y ∷ []) h e refl l refl)

pub mapped_twice : {A B C : Type 0} (f : B → C) (g : A → B) (xs : List A) → map (λ x. f (g x)) xs ≡ map f (map g xs)
mapped_twice f g [] = refl
mapped_twice f g (x ∷ xs) = ap (λ ys. f (g x) ∷ ys) (mapped_twice f g xs)

-- ---- the items of pieces

module _ {A B : Type 0} (f : A → List B) where
  -- an item of the list is an item of a piece, and conversely
  pub in_pieces : (xs : List A) (x : A) (y : B) → Contains xs x → Contains (f x) y → Contains (flat_map f xs) y
  in_pieces [] x y c d = no_member x c
  in_pieces (z ∷ zs) x y c d =
      ⊎_elim (λ e. Contains-append_left (f z) (flat_map f zs) y (subst (λ w. Contains (f w) y) e d))
      (λ b. Contains-append_right (f z) (flat_map f zs) y (in_pieces zs x y b d)) (member_cases z x zs c)

  pub from_pieces : (xs : List A) (y : B) → Contains (flat_map f xs) y → (x : A) × Contains xs x × Contains (f x) y
  from_pieces [] y c = no_member y c
  from_pieces (z ∷ zs) y c =
      ⊎_elim (λ h. (z, first_member z zs, h)) (λ h. let s = from_pieces zs y h in (s.0, later_member z s.0 zs s.1, s.2))
      (Contains-append_cases (f z) (flat_map f zs) y c)

-- a list of pieces whose elements are items of pieces
pub pieces_of_pieces : {A B C : Type 0} (f : B → List C) (g : A → List B) (xs : List A)
    → flat_map f (flat_map g xs) ≡ flat_map (λ x. flat_map f (g x)) xs
pieces_of_pieces f g [] = refl
pieces_of_pieces f g (x ∷ xs) =
    flat_map-append f (g x) (flat_map g xs) ∙ ap (λ ys. flat_map f (g x) ++ ys) (pieces_of_pieces f g xs)
