-- Members of lists: of short lists, of a list with one more member, and of a list with a function applied to each.
use Rattle.std.proofs.Common.{◌≡◌, ◌⊎◌, inl, inr, ℕ, zero, suc, ◌<◌, Bool, true, false, List, [], ◌∷◌, ◌++◌, Contains, get_or, length, map, refl, sym, subst, arith, true≢false}
use Rattle.std.specs.Bool.{if◌then◌else◌}
use Rattle.std.specs.List.{AllByRecursion}

pub first_member : {X : Type 0} (x : X) (xs : List X) → Contains (x ∷ xs) x
first_member x xs = (0, omega arith, refl)

pub later_member : {X : Type 0} (x y : X) (xs : List X) → Contains xs y → Contains (x ∷ xs) y
later_member x y xs h = (suc h.0, omega (arith, h.1), h.2)

pub member_cases : {X : Type 0} (x y : X) (xs : List X) → Contains (x ∷ xs) y → (y ≡ x) ⊎ Contains xs y
member_cases {X} x y xs h = by_index h.0 h.1 h.2
  where
    by_index : (k : ℕ) → k < suc (length xs) → get_or (x ∷ xs) k y ≡ y → (y ≡ x) ⊎ Contains xs y
    by_index zero w e = inl (sym e)
    by_index (suc k) w e = inr (k, omega arith, e)

pub no_member : {X : Type 0} {A : Type 0} (y : X) → Contains [] y → A
no_member y h = absurd (let k = h.1 in omega arith)

pub only_member : {X : Type 0} (x y : X) → Contains (x ∷ []) y → y ≡ x
only_member x y h = elim (member_cases x y [] h) [ inl e ↦ e | inr k ↦ no_member y k ]

-- a fact for each member, which a list of known members computes
abbrev pub Each : {X : Type 0} (P : X → Type 0) → List X → Type 0
Each P [] = Unit {0}
Each P (x ∷ xs) = P x × Each P xs

pub each_member : {X : Type 0} (P : X → Type 0) (xs : List X) → Each P xs → (y : X) → Contains xs y → P y
each_member P [] e y h = no_member y h
each_member P (x ∷ xs) e y h = elim (member_cases x y xs h) [ inl i ↦ subst P (sym i) e.0 | inr k ↦ each_member P xs e.1 y k ]

pub each_by_recursion : {X : Type 0} (P : X → Type 0) (xs : List X) → ((x : X) → Contains xs x → P x) → AllByRecursion P xs
each_by_recursion P [] h = tt
each_by_recursion P (x ∷ xs) h = (h x (first_member x xs), each_by_recursion P xs (λ y c. h y (later_member x y xs c)))

pub each_append : {X : Type 0} (P : X → Type 0) (xs ys : List X) → AllByRecursion P xs → AllByRecursion P ys → AllByRecursion P (xs ++ ys)
each_append P [] ys h k = k
each_append P (x ∷ xs) ys h k = (h.0, each_append P xs ys h.1 k)

-- ---- a function applied to each

pub contains_map : {X Y : Type 0} (g : X → Y) (xs : List X) (x : X) → Contains xs x → Contains (map g xs) (g x)
contains_map g [] x h = no_member x h
contains_map g (y ∷ xs) x h = elim (member_cases y x xs h) [
  | inl e ↦ subst (λ z. Contains (g y ∷ map g xs) (g z)) (sym e) (first_member (g y) (map g xs))
  | inr k ↦ later_member (g y) (g x) (map g xs) (contains_map g xs x k)
]

pub contains_of_map : {X Y : Type 0} (g : X → Y) (xs : List X) (y : Y) → Contains (map g xs) y → (x : X) × Contains xs x × (y ≡ g x)
contains_of_map g [] y h = no_member y h
contains_of_map g (x ∷ xs) y h = elim (member_cases (g x) y (map g xs) h) [
  | inl e ↦ (x, first_member x xs, e)
  | inr k ↦ (let r = contains_of_map g xs y k in (r.0, later_member x r.0 xs r.1, r.2))
]

-- ---- a list with one more member where a test holds
pub added_cases : {X : Type 0} (b : Bool) (x : X) (xs : List X) (y : X) → Contains (if b then x ∷ xs else xs) y
    → ((b ≡ true) × (y ≡ x)) ⊎ Contains xs y
added_cases true x xs y h = elim (member_cases x y xs h) [ inl e ↦ inl (refl, e) | inr k ↦ inr k ]
added_cases false x xs y h = inr h

pub added_later : {X : Type 0} (b : Bool) (x : X) (xs : List X) (y : X) → Contains xs y → Contains (if b then x ∷ xs else xs) y
added_later true x xs y h = later_member x y xs h
added_later false x xs y h = h

pub added_first : {X : Type 0} (b : Bool) (x : X) (xs : List X) → b ≡ true → Contains (if b then x ∷ xs else xs) x
added_first true x xs e = first_member x xs
added_first false x xs e = absurd (true≢false (sym e))
