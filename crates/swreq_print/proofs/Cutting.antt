-- Texts that are cut in one way.
use Rattle.std.proofs.Common.{◌≡◌, ◌≢◌, ◌∙◌, ◌++◌, ◌∷◌, [], ap, ap₂, refl, sym, ℕ, Bool, true, false, List, map, codes, true≢false, arith}
use Rattle.std.specs.List.{list_all, AllByRecursion}
use Rattle.std.proofs.lemmas.Bool.{and_parts}
use Rattle.std.proofs.lemmas.List.{append_assoc}
use Rattle.swreq_print.specs.Names.{Text}
use Rattle.swreq_text.specs.Joined.{followed}

-- The text is at its end, or goes on with a byte that is not inside what stands before it.
abbrev pub Stops : (ℕ → Bool) → Text → Type 0
Stops inside [] = Unit {0}
Stops inside (c ∷ rest) = inside c ≡ false

unfoldable pub rest_of : {A : Type 0} → List A → List A
rest_of [] = []
rest_of (x ∷ xs) = xs

unfoldable pub first_of : {A : Type 0} → A → List A → A
first_of d [] = d
first_of d (x ∷ xs) = x

length_of : Text → ℕ
length_of [] = 0
length_of (x ∷ xs) = 1

pub empty_not : (c : ℕ) (t : Text) → ◌≡◌ {A = Text} [] (c ∷ t) → ⊥
unfolding length_of
empty_not c t e = let bad : ◌≡◌ {A = ℕ} 0 1 = ap length_of e in absurd (omega arith)

pub numbers_apart : (a b : ℕ) → (a ≡ b → ⊥) → (x y : Text) → a ∷ x ≡ b ∷ y → ⊥
unfolding first_of
numbers_apart a b n x y e = n (ap (first_of 0) e)

-- Two texts of bytes that are inside, each before a stop, end at the same place.
pub cut : (inside : ℕ → Bool) (a b x y : Text) → list_all inside a ≡ true → list_all inside b ≡ true → Stops inside x → Stops inside y
    → a ++ x ≡ b ++ y → (a ≡ b) × (x ≡ y)
unfolding rest_of first_of
cut inside [] [] x y ia ib sx sy e = (refl, e)
cut inside [] (c ∷ b) [] y ia ib sx sy e = absurd (empty_not c (b ++ y) e)
cut inside [] (c ∷ b) (d ∷ x) y ia ib sx sy e =
    absurd (true≢false (sym (and_parts (inside c) _ ib).0 ∙ ap inside (sym (ap (first_of 0) e)) ∙ sx))
cut inside (c ∷ a) [] x [] ia ib sx sy e = absurd (empty_not c (a ++ x) (sym e))
cut inside (c ∷ a) [] x (d ∷ y) ia ib sx sy e =
    absurd (true≢false (sym (and_parts (inside c) _ ia).0 ∙ ap inside (ap (first_of 0) e) ∙ sy))
cut inside (c ∷ a) (d ∷ b) x y ia ib sx sy e =
    let more = cut inside a b x y (and_parts (inside c) _ ia).1 (and_parts (inside d) _ ib).1 sx sy (ap rest_of e) in
    (ap₂ (λ h t. h ∷ t) (ap (first_of 0) e) more.0, more.1)

-- ---- lists with a comma and a space between each two

-- What closes a list begins with no comma.
abbrev pub NoComma : Text → Type 0
NoComma [] = Unit {0}
NoComma (c ∷ rest) = c ≢ 44

no_comma : (x t : Text) → NoComma x → x ≡ 44 ∷ t → ⊥
unfolding first_of
no_comma [] t n e = empty_not 44 t e
no_comma (c ∷ x) t n e = n (ap (first_of 0) e)

-- The text of a thing, before what may follow it, says which thing it is.
abbrev pub IsRead : {A : Type 0} → (A → Text) → (A → Type 0) → (Text → Type 0) → Type 0
IsRead {A} text IsOf Ends = (a b : A) (x y : Text) → IsOf a → IsOf b → Ends x → Ends y → text a ++ x ≡ text b ++ y → (a ≡ b) × (x ≡ y)

module _ {A : Type 0} (text : A → Text) (IsOf : A → Type 0) (Ends : Text → Type 0) (read : IsRead text IsOf Ends)
    (comma : (t : Text) → Ends (44 ∷ t)) where
  -- the texts after the first one
  abbrev more_texts : List A → Text
  more_texts xs = followed (codes ", ") (map text xs)

  go_on : (xs : List A) (x : Text) → Ends x → Ends (more_texts xs ++ x)
  go_on [] x e = e
  go_on (z ∷ xs) x e = comma (32 ∷ ((text z ++ more_texts xs) ++ x))

  more_read : (xs ys : List A) (x y : Text) → AllByRecursion IsOf xs → AllByRecursion IsOf ys → Ends x → Ends y → NoComma x → NoComma y
      → more_texts xs ++ x ≡ more_texts ys ++ y → (xs ≡ ys) × (x ≡ y)
  unfolding rest_of
  more_read [] [] x y ox oy ex ey nx ny e = (refl, e)
  more_read [] (b ∷ ys) x y ox oy ex ey nx ny e = absurd (no_comma x _ nx e)
  more_read (a ∷ xs) [] x y ox oy ex ey nx ny e = absurd (no_comma y _ ny (sym e))
  more_read (a ∷ xs) (b ∷ ys) x y ox oy ex ey nx ny e =
      let tails : (text a ++ more_texts xs) ++ x ≡ (text b ++ more_texts ys) ++ y = ap (λ t. rest_of (rest_of t)) e in
      let one = read a b _ _ ox.0 oy.0 (go_on xs x ex) (go_on ys y ey)
      (sym (append_assoc (text a) (more_texts xs) x) ∙ tails ∙ append_assoc (text b) (more_texts ys) y) in
      let more = more_read xs ys x y ox.1 oy.1 ex ey nx ny one.1 in
      (ap₂ (λ h t. h ∷ t) one.0 more.0, more.1)

  -- of lists that are not empty
  pub some_read : (a b : A) (xs ys : List A) (x y : Text) → AllByRecursion IsOf (a ∷ xs) → AllByRecursion IsOf (b ∷ ys) → Ends x → Ends y
      → NoComma x → NoComma y → (text a ++ more_texts xs) ++ x ≡ (text b ++ more_texts ys) ++ y → ((a ∷ xs) ≡ (b ∷ ys)) × (x ≡ y)
  some_read a b xs ys x y ox oy ex ey nx ny e =
      let one = read a b _ _ ox.0 oy.0 (go_on xs x ex) (go_on ys y ey)
      (sym (append_assoc (text a) (more_texts xs) x) ∙ e ∙ append_assoc (text b) (more_texts ys) y) in
      let more = more_read xs ys x y ox.1 oy.1 ex ey nx ny one.1 in
      (ap₂ (λ h t. h ∷ t) one.0 more.0, more.1)
