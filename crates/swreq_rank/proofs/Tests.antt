-- What tests tell, of one item and of the items of a list.
use Rattle.std.proofs.Common.{◌≡◌, Bool, true, false, ◌↔◌, ⊎_elim, List, [], ◌∷◌, Contains, refl, sym, ap, ◌∙◌}
use Rattle.std.specs.List.{list_any}
use Rattle.std.proofs.lemmas.Bool.{or_cases}
use Rattle.std.proofs.lemmas.List.Folds.{list_any_at}
use Rattle.swreq_lemmas.proofs.Members.{first_member, later_member}

pub same_bool : (x y : Bool) → (x ≡ true → y ≡ true) → (y ≡ true → x ≡ true) → x ≡ y
same_bool true y f g = sym (f refl)
same_bool false true f g = g refl
same_bool false false f g = refl

module _ {A : Type 0} (f : A → Bool) where
  -- some item that is there passes the test
  pub some_passes : (xs : List A) → list_any f xs ≡ true → (x : A) × Contains xs x × (f x ≡ true)
  some_passes [] e = absurd cc
  some_passes (x ∷ xs) e =
      ⊎_elim (λ h. (x, first_member x xs, h)) (λ h. let s = some_passes xs h in (s.0, later_member x s.0 xs s.1, s.2))
      (or_cases (f x) (list_any f xs) e)

  pub passes : (xs : List A) (x : A) → Contains xs x → f x ≡ true → list_any f xs ≡ true
  passes xs x c e = list_any_at f xs c.0 x c.1 (ap f c.2 ∙ e)

-- Lists with the same items have an item that passes together.
pub same_members : {A : Type 0} (f : A → Bool) (xs ys : List A) → ((x : A) → Contains xs x ↔ Contains ys x) → list_any f xs ≡ list_any f ys
same_members f xs ys same =
    same_bool (list_any f xs) (list_any f ys)
    (λ e. let s = some_passes f xs e in passes f ys s.0 ((same s.0).0 s.1) s.2)
    (λ e. let s = some_passes f ys e in passes f xs s.0 ((same s.0).1 s.1) s.2)
