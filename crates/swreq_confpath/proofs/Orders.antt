-- The order of lists of numbers: fewer first, and lists of the same length from the left.
use Rattle.std.proofs.Common.{◌≡◌, ℕ, ◌+◌, ◌<◌, ◌≤◌, inl, inr, List, [], ◌∷◌, ◌++◌, length, refl, sym, ap, subst, ◌∙◌, arith, length-append}
use Rattle.swreq_machine.specs.swreq_derive.Paths.{NumbersBefore}
use Rattle.swreq_confpath.specs.Routes.{ComesBefore, IsNotAfter}

-- ---- from the left

left_then : (xs ys zs : List ℕ) → NumbersBefore xs ys → NumbersBefore ys zs → NumbersBefore xs zs
left_then [] ys zs h k = absurd h
left_then (x ∷ xs) [] zs h k = absurd h
left_then (x ∷ xs) (y ∷ ys) [] h k = absurd k
left_then (x ∷ xs) (y ∷ ys) (z ∷ zs) (inl h) (inl k) = inl (omega arith)
left_then (x ∷ xs) (y ∷ ys) (z ∷ zs) (inl h) (inr k) = let e = k.0 in inl (omega arith)
left_then (x ∷ xs) (y ∷ ys) (z ∷ zs) (inr h) (inl k) = let e = h.0 in inl (omega arith)
left_then (x ∷ xs) (y ∷ ys) (z ∷ zs) (inr h) (inr k) = inr (h.0 ∙ k.0, left_then xs ys zs h.1 k.1)

pub not_left_of_itself : (xs : List ℕ) → NumbersBefore xs xs → ⊥
not_left_of_itself [] h = h
not_left_of_itself (x ∷ xs) (inl h) = omega arith
not_left_of_itself (x ∷ xs) (inr h) = not_left_of_itself xs h.1

-- what stands after both changes nothing
left_with : (xs ys us vs : List ℕ) → NumbersBefore xs ys → NumbersBefore (xs ++ us) (ys ++ vs)
left_with [] ys us vs h = absurd h
left_with (x ∷ xs) [] us vs h = absurd h
left_with (x ∷ xs) (y ∷ ys) us vs (inl h) = inl h
left_with (x ∷ xs) (y ∷ ys) us vs (inr h) = inr (h.0, left_with xs ys us vs h.1)

left_behind : (xs us vs : List ℕ) → NumbersBefore us vs → NumbersBefore (xs ++ us) (xs ++ vs)
left_behind [] us vs h = h
left_behind (x ∷ xs) us vs h = inr (refl, left_behind xs us vs h)

-- ---- the order

pub before_then : (xs ys zs : List ℕ) → ComesBefore xs ys → ComesBefore ys zs → ComesBefore xs zs
before_then xs ys zs (inl h) (inl k) = inl (omega arith)
before_then xs ys zs (inl h) (inr k) = let e = k.0 in inl (omega arith)
before_then xs ys zs (inr h) (inl k) = let e = h.0 in inl (omega arith)
before_then xs ys zs (inr h) (inr k) = inr (h.0 ∙ k.0, left_then xs ys zs h.1 k.1)

pub not_after_then : (xs ys zs : List ℕ) → IsNotAfter xs ys → IsNotAfter ys zs → IsNotAfter xs zs
not_after_then xs ys zs (inl e) k = subst (λ w. IsNotAfter w zs) (sym e) k
not_after_then xs ys zs (inr h) (inl e) = inr (subst (ComesBefore xs) e h)
not_after_then xs ys zs (inr h) (inr k) = inr (before_then xs ys zs h k)

same_behind : (xs us vs : List ℕ) → length us ≡ length vs → length (xs ++ us) ≡ length (xs ++ vs)
same_behind xs us vs e = length-append xs us ∙ ap (λ n. length xs + n) e ∙ sym (length-append xs vs)

more_behind : (xs us vs : List ℕ) → length us < length vs → length (xs ++ us) < length (xs ++ vs)
more_behind xs us vs h = let e = length-append xs us in let k = length-append xs vs in omega arith

-- where the same numbers follow both
pub before_with : (xs ys ns : List ℕ) → ComesBefore xs ys → ComesBefore (xs ++ ns) (ys ++ ns)
before_with xs ys ns (inl h) = let e = length-append xs ns in let k = length-append ys ns in inl (omega arith)
before_with xs ys ns (inr h) =
    let e = length-append xs ns in
    let k = length-append ys ns in
    let i = h.0 in
    inr (omega arith, left_with xs ys ns ns h.1)

pub not_after_with : (xs ys ns : List ℕ) → IsNotAfter xs ys → IsNotAfter (xs ++ ns) (ys ++ ns)
not_after_with xs ys ns (inl e) = inl (ap (λ z. z ++ ns) e)
not_after_with xs ys ns (inr h) = inr (before_with xs ys ns h)

-- where one number follows the earlier, and some follow the later
pub before_longer : (xs ys ns : List ℕ) (m n : ℕ) → ComesBefore xs ys → ComesBefore (xs ++ m ∷ []) (ys ++ n ∷ ns)
before_longer xs ys ns m n (inl h) = let e = length-append xs (m ∷ []) in let k = length-append ys (n ∷ ns) in inl (omega arith)
before_longer xs ys [] m n (inr h) =
    let e = length-append xs (m ∷ []) in
    let k = length-append ys (n ∷ []) in
    let i = h.0 in
    inr (omega arith, left_with xs ys (m ∷ []) (n ∷ []) h.1)
before_longer xs ys (j ∷ ns) m n (inr h) =
    let e = length-append xs (m ∷ []) in
    let k = length-append ys (n ∷ (j ∷ ns)) in
    let i = h.0 in
    inl (omega arith)

-- the same numbers, followed by a lesser one, or by only one
pub before_by_last : (xs : List ℕ) (m n : ℕ) → m < n → ComesBefore (xs ++ m ∷ []) (xs ++ n ∷ [])
before_by_last xs m n h = inr (same_behind xs (m ∷ []) (n ∷ []) refl, left_behind xs (m ∷ []) (n ∷ []) (inl h))

pub before_by_length : (xs ns : List ℕ) (m n k : ℕ) → ComesBefore (xs ++ m ∷ []) (xs ++ (n ∷ (k ∷ ns)))
before_by_length xs ns m n k = inl (more_behind xs (m ∷ []) (n ∷ (k ∷ ns)) (omega arith))

-- ---- what it says of lengths and numbers

pub not_after_length : (xs ys : List ℕ) → IsNotAfter xs ys → length xs ≤ length ys
not_after_length xs ys (inl e) = let k = ap length e in omega arith
not_after_length xs ys (inr (inl h)) = omega arith
not_after_length xs ys (inr (inr h)) = let e = h.0 in omega arith

pub not_after_numbers : (xs ys : List ℕ) → IsNotAfter xs ys → length ys ≡ length xs → NumbersBefore ys xs → ⊥
not_after_numbers xs ys (inl e) l h = not_left_of_itself xs (subst (λ z. NumbersBefore z xs) (sym e) h)
not_after_numbers xs ys (inr (inl k)) l h = omega arith
not_after_numbers xs ys (inr (inr k)) l h = not_left_of_itself xs (left_then xs ys xs k.1 h)
