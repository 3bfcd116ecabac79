-- Lists that have the same members.
use Rattle.std.proofs.Common.{◌≡◌, ⊎_elim, ℕ, zero, suc, ◌+◌, List, [], ◌∷◌, ◌++◌, Contains, refl, sym, ap, subst, ◌∙◌, arith, append_assoc}
use Rattle.std.specs.List.{flat_map, slice_get}
use Rattle.std.specs.Prelude.{Some}
use Rattle.std.proofs.lemmas.List.Elements.{Contains-append_left, Contains-append_right, Contains-append_cases}
use Rattle.swreq_names.proofs.swreq_lemmas.Members.{no_member, first_member, later_member, member_cases}
use Rattle.swreq_names.specs.Parts.{numbered}
pub use Rattle.swreq_names.proofs.Pieces.{from_pieces, in_pieces}
use Rattle.swreq_resolve.specs.Refusals.{by_place}

-- ---- the same members

pub record Same {X : Type 0} (xs ys : List X) : Type 0 where
  pub to : (x : X) → Contains xs x → Contains ys x
  pub from : (x : X) → Contains ys x → Contains xs x

pub equal : {X : Type 0} (xs ys : List X) → xs ≡ ys → Same xs ys
equal xs ys e = record { to = λ x c. subst (λ zs. Contains zs x) e c; from = λ x c. subst (λ zs. Contains zs x) (sym e) c }

module _ {X : Type 0} where
  pub itself : (xs : List X) → Same xs xs
  itself xs = record { to = λ x c. c; from = λ x c. c }

  pub turned : {xs ys : List X} → Same xs ys → Same ys xs
  turned s = record { to = s.from; from = s.to }

  pub then : {xs ys zs : List X} → Same xs ys → Same ys zs → Same xs zs
  then s t = record { to = λ x c. t.to x (s.to x c); from = λ x c. s.from x (t.from x c) }

  -- one after the other
  pub both : {ps qs rs ts : List X} → Same ps qs → Same rs ts → Same (ps ++ rs) (qs ++ ts)
  both {ps} {qs} {rs} {ts} s t = record {
    to = λ x c. ⊎_elim (λ h. Contains-append_left qs ts x (s.to x h)) (λ h. Contains-append_right qs ts x (t.to x h))
        (Contains-append_cases ps rs x c);
    from = λ x c. ⊎_elim (λ h. Contains-append_left ps rs x (s.from x h)) (λ h. Contains-append_right ps rs x (t.from x h))
        (Contains-append_cases qs ts x c);
  }

  moved_to : (ps qs rs : List X) (x : X) → Contains (ps ++ (qs ++ rs)) x → Contains (qs ++ (ps ++ rs)) x
  moved_to ps qs rs x c =
      ⊎_elim (λ h. Contains-append_right qs (ps ++ rs) x (Contains-append_left ps rs x h))
      (λ h.
      ⊎_elim (λ k. Contains-append_left qs (ps ++ rs) x k) (λ k. Contains-append_right qs (ps ++ rs) x (Contains-append_right ps rs x k))
      (Contains-append_cases qs rs x h))
      (Contains-append_cases ps (qs ++ rs) x c)

  pub moved : (ps qs rs : List X) → Same (ps ++ (qs ++ rs)) (qs ++ (ps ++ rs))
  moved ps qs rs = record { to = moved_to ps qs rs; from = moved_to qs ps rs }

  -- the first parts and then the second
  pub parted : (ps qs rs ts : List X) → Same ((ps ++ qs) ++ (rs ++ ts)) ((ps ++ rs) ++ (qs ++ ts))
  parted ps qs rs ts =
      then (equal ((ps ++ qs) ++ (rs ++ ts)) (ps ++ (qs ++ (rs ++ ts))) (append_assoc ps qs (rs ++ ts)))
      (then (both (itself ps) (moved qs rs ts))
      (equal (ps ++ (rs ++ (qs ++ ts))) ((ps ++ rs) ++ (qs ++ ts)) (sym (append_assoc ps rs (qs ++ ts)))))

module _ {A B : Type 0} where
  -- pieces with the same members
  pub each : (f g : A → List B) (xs : List A) → ((x : A) → Contains xs x → Same (f x) (g x)) → Same (flat_map f xs) (flat_map g xs)
  each f g [] s = itself []
  each f g (x ∷ xs) s = both (s x (first_member x xs)) (each f g xs (λ y c. s y (later_member x y xs c)))

  -- pieces of two parts
  pub split : (f g : A → List B) (xs : List A) → Same (flat_map (λ x. f x ++ g x) xs) (flat_map f xs ++ flat_map g xs)
  split f g [] = itself []
  split f g (x ∷ xs) = then (both (itself (f x ++ g x)) (split f g xs)) (parted (f x) (g x) (flat_map f xs) (flat_map g xs))

-- ---- items with their places

module _ {A : Type 0} where
  pub by_number : {B : Type 0} (f : ℕ → A → List B) (i : ℕ) (xs : List A) → by_place f i xs ≡ flat_map (λ p. f p.0 p.1) (numbered i xs)
  by_number f i [] = refl
  by_number f i (x ∷ xs) = ap (λ ys. f i x ++ ys) (by_number f (i + 1) xs)

  pub unnumbered : {B : Type 0} (f : A → List B) (i : ℕ) (xs : List A) → flat_map (λ p. f p.1) (numbered i xs) ≡ flat_map f xs
  unnumbered f i [] = refl
  unnumbered f i (x ∷ xs) = ap (λ ys. f x ++ ys) (unnumbered f (i + 1) xs)

  number_from : (i k : ℕ) (xs : List A) (x : A) → slice_get xs k ≡ Some x → Contains (numbered i xs) (i + k, x)
  number_from i k [] x e = absurd cc
  number_from i zero (y ∷ xs) x e =
      let here : (i, y) ≡ (i + 0, x) = pair i (i + 0) y x (omega arith) cc in
      subst (λ p. Contains ((i, y) ∷ numbered (i + 1) xs) p) here (first_member (i, y) (numbered (i + 1) xs))
    where
      pair : (i j : ℕ) (y x : A) → i ≡ j → y ≡ x → ◌≡◌ {A = ℕ × A} (i, y) (j, x)
      pair i j y x e f = λ k. (e k, f k)
  number_from i (suc k) (y ∷ xs) x e =
      let more : Contains (numbered (i + 1) xs) (i + 1 + k, x) = number_from (i + 1) k xs x e in
      let same : i + 1 + k ≡ i + suc k = omega arith in
      later_member (i, y) (i + suc k, x) (numbered (i + 1) xs) (subst (λ n. Contains (numbered (i + 1) xs) (n, x)) same more)

  -- an item with its number
  pub has_number : (k : ℕ) (xs : List A) (x : A) → slice_get xs k ≡ Some x → Contains (numbered 0 xs) (k, x)
  has_number k xs x e = let same : 0 + k ≡ k = omega arith in subst (λ n. Contains (numbered 0 xs) (n, x)) same (number_from 0 k xs x e)

  from_number : (i : ℕ) (xs : List A) (p : ℕ × A) → Contains (numbered i xs) p → (k : ℕ) × (p.0 ≡ i + k) × (slice_get xs k ≡ Some p.1)
  from_number i [] p c = no_member p c
  from_number i (x ∷ xs) p c =
      ⊎_elim (λ e. (0, ap (λ (q : ℕ × A). q.0) e ∙ omega arith, ap (λ (q : ℕ × A). Some q.1) (sym e)))
      (λ h. let s = from_number (i + 1) xs p h in (suc s.0, (let e = s.1 in omega (arith, e)), s.2))
      (member_cases (i, x) p (numbered (i + 1) xs) c)

  pub number_of : (xs : List A) (p : ℕ × A) → Contains (numbered 0 xs) p → slice_get xs p.0 ≡ Some p.1
  number_of xs p c =
      let s = from_number 0 xs p c in
      let same : s.0 ≡ p.0 = (let e = s.1 in omega (arith, e)) in
      subst (λ n. slice_get xs n ≡ Some p.1) same s.2
