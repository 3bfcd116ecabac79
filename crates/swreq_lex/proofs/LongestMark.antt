-- The first mark of the table that a text begins with is the longest one, since none begins with one before it.
use Rattle.std.proofs.Common.{◌≡◌, ℕ, zero, suc, ◌+◌, ◌≤◌, ◌<◌, ◌⊎◌, inl, inr, Bool, true, false, not, ◌&&◌, List, [], ◌∷◌, ◌++◌, length, drop, get_or, Some, refl, sym, ap, subst, ◌∙◌, arith, nat_eq, nat_lt, cond, slice_get, position, eq-eqb}
use Rattle.std.proofs.lemmas.Bool.{eqb-true, and_parts}
use Rattle.std.proofs.lemmas.List.Quantifiers.{position-Some}
use Rattle.std.proofs.lemmas.Bool.Decides.{nat_tests}
use Rattle.std.proofs.lemmas.Option.{slice_get-get_or, get_or_from_slice_get}
use Rattle.std.specs.List.{starts_with, list_all, position_or_len}
use Rattle.swreq_lex.specs.Marks.{IsMark, spellings}
use Rattle.swreq_lex.specs.Reader.{mark_at}
use Rattle.swreq_lex.proofs.MarkLemmas.{starts-split}

abbrev Begins : List ℕ → List ℕ → Type 0
Begins cs mark = starts_with nat_eq cs mark ≡ true

begins : (mark rest : List ℕ) → Begins (mark ++ rest) mark
begins [] rest = refl
begins (c ∷ mark) rest = rw (eq-eqb c c refl) (begins mark rest)

-- of two fronts of a text the shorter one is a front of the other
shorter : (cs a b : List ℕ) → Begins cs a → Begins cs b → length a ≤ length b → Begins b a
shorter cs [] b h k l = refl
shorter cs (x ∷ a) [] h k l = absurd (omega arith)
shorter [] (x ∷ a) (y ∷ b) h k l = absurd (cc)
shorter (c ∷ cs) (x ∷ a) (y ∷ b) h k l =
    let p = and_parts (nat_eq x c) (starts_with nat_eq cs a) h in
    let q = and_parts (nat_eq y c) (starts_with nat_eq cs b) k in
    rw (eq-eqb x y (eqb-true x c p.0 ∙ sym (eqb-true y c q.0))) (shorter cs a b p.1 q.1 (omega arith))

-- ---- the table

-- no mark begins with one before it
abbrev are_apart : List (List ℕ) → Bool
are_apart [] = true
are_apart (mark ∷ marks) = list_all (λ later. not (starts_with nat_eq later mark)) marks && are_apart marks

spellings_are_apart : are_apart spellings ≡ true
spellings_are_apart = refl

not_true : (b : Bool) → not b ≡ true → b ≡ true → ⊥
not_true true h k = absurd (cc)
not_true false h k = absurd (cc)

none_begins : (marks : List (List ℕ)) (mark : List ℕ) → list_all (λ later. not (starts_with nat_eq later mark)) marks ≡ true
    → (m : ℕ) (other : List ℕ) → slice_get marks m ≡ Some other → Begins other mark → ⊥
none_begins [] mark h m other e b = absurd (cc)
none_begins (later ∷ marks) mark h zero other e b =
    let same : later ≡ other = cc in
    not_true (starts_with nat_eq later mark)
    (and_parts (not (starts_with nat_eq later mark)) (list_all (λ k. not (starts_with nat_eq k mark)) marks) h).0 (rw same b)
none_begins (later ∷ marks) mark h (suc m) other e b = none_begins marks mark
    (and_parts (not (starts_with nat_eq later mark)) (list_all (λ k. not (starts_with nat_eq k mark)) marks) h).1 m other e b

apart : (marks : List (List ℕ)) → are_apart marks ≡ true → (k m : ℕ) (one other : List ℕ) → k < m → slice_get marks k ≡ Some one
    → slice_get marks m ≡ Some other → Begins other one → ⊥
apart [] a k m one other l e f b = absurd (cc)
apart (mark ∷ marks) a k zero one other l e f b = absurd (omega arith)
apart (mark ∷ marks) a zero (suc m) one other l e f b =
    let same : mark ≡ one = cc in
    none_begins marks mark
    (and_parts (list_all (λ later. not (starts_with nat_eq later mark)) marks) (are_apart marks) a).0 m other f (rw same b)
apart (mark ∷ marks) a (suc k) (suc m) one other l e f b = apart marks
    (and_parts (list_all (λ later. not (starts_with nat_eq later mark)) marks) (are_apart marks) a).1 k m one other (omega arith) e f b

order : (k m : ℕ) → (k < m) ⊎ ((k ≡ m) ⊎ (m < k))
order zero zero = inr (inl refl)
order zero (suc m) = inl (omega arith)
order (suc k) zero = inr (inr (omega arith))
order (suc k) (suc m) = elim (order k m) as (λ o. (suc k < suc m) ⊎ ((suc k ≡ suc m) ⊎ (suc m < suc k))) [
  | inl l ↦ inl (omega arith)
  | inr o ↦ elim o
      as (λ o. (suc k < suc m) ⊎ ((suc k ≡ suc m) ⊎ (suc m < suc k))) [ inl e ↦ inr (inl (ap suc e)) | inr l ↦ inr (inr (omega arith)) ]
]

-- a mark that begins there has a place from the first one on, and is not longer
not_longer : (cs : List ℕ) (n : ℕ) (piece : List ℕ) → mark_at cs ≡ Some n → slice_get spellings n ≡ Some piece → (m : ℕ) (other : List ℕ)
    → slice_get spellings m ≡ Some other → Begins cs other → (m ≡ n) ⊎ ((n < m) × (length other ≤ length piece))
not_longer cs n piece e s m other f b = go (order m n)
  where
    here : (n < length spellings) × (starts_with nat_eq cs (get_or spellings n []) ≡ true)
        × ((k : ℕ) → k < n → starts_with nat_eq cs (get_or spellings k []) ≡ false)
    here = position-Some (λ (mark : List ℕ). starts_with nat_eq cs mark) spellings n [] e

    front : Begins cs piece
    front = subst (λ (mark : List ℕ). Begins cs mark) (get_or_from_slice_get spellings n piece [] s) here.1

    later : n < m → (length piece < length other) ⊎ (length other ≤ length piece) → (m ≡ n) ⊎ ((n < m) × (length other ≤ length piece))
    later l (inl k) = absurd (apart spellings spellings_are_apart n m piece other l s f (shorter cs piece other front b (omega arith)))
    later l (inr k) = inr (l, k)

    lengths : (a b : ℕ) → (a < b) ⊎ (b ≤ a)
    lengths a b = elim (order a b)
        as (λ o. (a < b) ⊎ (b ≤ a)) [ inl l ↦ inl l | inr o ↦ inr (elim o as (λ o. b ≤ a) [ inl e ↦ omega arith | inr l ↦ omega arith ]) ]

    go : (m < n) ⊎ ((m ≡ n) ⊎ (n < m)) → (m ≡ n) ⊎ ((n < m) × (length other ≤ length piece))
    go (inl l) = absurd (let no = here.2 m l in
        let yes = subst (λ (mark : List ℕ). Begins cs mark) (sym (get_or_from_slice_get spellings m other [] f)) b in cc)
    go (inr (inl e)) = inl e
    go (inr (inr l)) = later l (lengths (length piece) (length other))

-- ---- the mark

pub first_is_longest : (n : ℕ) (piece rest : List ℕ) → slice_get spellings n ≡ Some piece
    → mark_at (piece ++ rest) ≡ Some n → IsMark n piece rest
first_is_longest n piece rest s e = record { spelled = s; longest = longest }
  where
    longest : (m : ℕ) (other after : List ℕ) → slice_get spellings m ≡ Some other → piece ++ rest ≡ other ++ after
        → length other ≤ length piece
    longest m other after f split = go (not_longer (piece ++ rest) n piece e s m other f (rw split (begins other after)))
      where
        go : (m ≡ n) ⊎ ((n < m) × (length other ≤ length piece)) → length other ≤ length piece
        go (inl same) = let equal : Some other ≡ Some piece = sym f ∙ ap (slice_get spellings) same ∙ s in
            let is : other ≡ piece = cc in rw is (omega arith)
        go (inr l) = l.1

-- what passes is found
passes_within : (p : List ℕ → Bool) (xs : List (List ℕ)) (n : ℕ) (x : List ℕ) → slice_get xs n ≡ Some x → p x ≡ true
    → position_or_len p xs < length xs
passes_within p [] n x e h = absurd (cc)
passes_within p (y ∷ xs) zero x e h =
    let same : y ≡ x = cc in
    let yes : p y ≡ true = rw same h in
    rw yes (omega arith)
passes_within p (y ∷ xs) (suc n) x e h =
    let later = passes_within p xs n x e h in
    elim (p y) as (λ b. cond (not b) (1 + position_or_len p xs) 0 < suc (length xs)) [ true ↦ omega arith | false ↦ omega arith ]

passes_found : (p : List ℕ → Bool) (xs : List (List ℕ)) (n : ℕ) (x : List ℕ) → slice_get xs n ≡ Some x → p x ≡ true
    → position p xs ≡ Some (position_or_len p xs)
passes_found p xs n x e h =
    let l = passes_within p xs n x e h in
    let t : nat_lt (position_or_len p xs) (length xs) ≡ true = grind (arith, nat_tests) in
    rw t refl

pub longest_is_first : (n : ℕ) (piece rest : List ℕ) → IsMark n piece rest → mark_at (piece ++ rest) ≡ Some n
longest_is_first n piece rest mark = subst (λ m. mark_at (piece ++ rest) ≡ Some m) (sym (go (order n k))) found
  where
    k : ℕ
    k = position_or_len (λ (m : List ℕ). starts_with nat_eq (piece ++ rest) m) spellings

    found : mark_at (piece ++ rest) ≡ Some k
    found = passes_found (λ (m : List ℕ). starts_with nat_eq (piece ++ rest) m) spellings n piece mark.spelled (begins piece rest)

    here : (k < length spellings) × (starts_with nat_eq (piece ++ rest) (get_or spellings k []) ≡ true)
        × ((j : ℕ) → j < k → starts_with nat_eq (piece ++ rest) (get_or spellings j []) ≡ false)
    here = position-Some (λ (m : List ℕ). starts_with nat_eq (piece ++ rest) m) spellings k [] found

    at : slice_get spellings k ≡ Some (get_or spellings k [])
    at = slice_get-get_or spellings k [] here.0

    go : (n < k) ⊎ ((n ≡ k) ⊎ (k < n)) → n ≡ k
    go (inl l) = absurd (let no = here.2 n l in let yes = subst (λ (m : List ℕ). Begins (piece ++ rest) m)
        (sym (get_or_from_slice_get spellings n piece [] mark.spelled)) (begins piece rest) in cc)
    go (inr (inl e)) = e
    go (inr (inr l)) = absurd (apart spellings spellings_are_apart k n (get_or spellings k []) piece l at mark.spelled
        (shorter (piece ++ rest) (get_or spellings k []) piece here.1 (begins piece rest) (mark.longest k (get_or spellings k [])
        (drop (length (get_or spellings k [])) (piece ++ rest)) at (starts-split (get_or spellings k []) (piece ++ rest) here.1))))
