-- What a type may begin with.
use Rattle.std.proofs.Common.{◌≡◌, ℕ, zero, suc, ◌+◌, ◌<◌, ⊎_elim, ◌↔◌, Bool, true, false, cond, ◌&&◌, List, [], ◌∷◌, length, get_or, Contains, is_some, Some, refl, sym, ap, subst, ◌∙◌, arith, true≢false}
use Rattle.std.specs.List.{list_any, position_from}
use Rattle.std.specs.Str.{bytes_eq}
use Rattle.std.proofs.lemmas.Bool.{cases_eq, cases_lt, or_cases, or_left, or_right, and_from, and_parts}
use Rattle.std.proofs.lemmas.List.{get_or_past}
use Rattle.std.proofs.lemmas.List.Elements.{Contains-append_right}
use Rattle.std.proofs.lemmas.Slice.Eq.{bytes_eq-Decides}
use Rattle.swreq_rank.proofs.swreq_lemmas.Members.{no_member}
use Rattle.swreq_rank.proofs.Tests.{same_bool, some_passes, passes}
use Rattle.swreq_names.specs.declared.directory.Declaration.{Declaration}
use Rattle.swreq_names.specs.Spaces.{is_declared, any_below}
use Rattle.swreq_names.specs.Directories.{names_of}
use Rattle.swreq_names.proofs.Firsts.{same_true}

-- ---- some number

below_to : (test : ℕ → Bool) (n : ℕ) → any_below test n ≡ true → (j : ℕ) × (j < n) × (test j ≡ true)
below_to test zero e = absurd (true≢false (sym e))
below_to test (suc n) e =
    ⊎_elim (λ h. (n, omega arith, h)) (λ h. let k = below_to test n h in let l = k.1 in (k.0, omega arith, k.2))
    (or_cases (test n) (any_below test n) e)

pub below_from : (test : ℕ → Bool) (n j : ℕ) → j < n → test j ≡ true → any_below test n ≡ true
below_from test zero j h e = absurd (omega arith)
below_from test (suc n) j h e =
    ⊎_elim (λ s. or_left (test n) (any_below test n) (ap test (sym s) ∙ e))
    (λ m. or_right (test n) (any_below test n) (below_from test n j (omega arith) e)) (cases_eq j n)

-- ---- declared names

declared_to : (names : List (List ℕ)) (q : List ℕ) (i : ℕ) → is_some (position_from (bytes_eq q) i names) ≡ true → Contains names q
declared_to [] q i e = absurd (true≢false (sym e))
declared_to (x ∷ xs) q i e = by (bytes_eq q x) refl e (declared_to xs q (i + 1))
  where
    by : (b : Bool) → bytes_eq q x ≡ b → is_some (cond b (Some i) (position_from (bytes_eq q) (i + 1) xs)) ≡ true
        → (is_some (position_from (bytes_eq q) (i + 1) xs) ≡ true → Contains xs q) → Contains (x ∷ xs) q
    by true s f rest = (0, omega arith, sym ((bytes_eq-Decides q x).0 s))
    by false s f rest = Contains-append_right (x ∷ []) xs q (rest f)

declared_from : (names : List (List ℕ)) (q : List ℕ) (i : ℕ) → Contains names q → is_some (position_from (bytes_eq q) i names) ≡ true
declared_from [] q i c = no_member q c
declared_from (x ∷ xs) q i c = by (bytes_eq q x) refl c.0 c.1 c.2 (declared_from xs q (i + 1))
  where
    by : (b : Bool) → bytes_eq q x ≡ b → (k : ℕ) → k < length (x ∷ xs) → get_or (x ∷ xs) k q ≡ q
        → (Contains xs q → is_some (position_from (bytes_eq q) (i + 1) xs) ≡ true)
        → is_some (cond b (Some i) (position_from (bytes_eq q) (i + 1) xs)) ≡ true
    by true s k l e rest = refl
    by false s zero l e rest = absurd (true≢false (sym (same_true q x (sym e)) ∙ s))
    by false s (suc k) l e rest = let m : k < length xs = omega arith in rest (k, m, e)

-- ---- the protocols that declare a name, and those of them that pass a test

pub declared_by_any : (tells : ℕ → Bool) (members : List (List Declaration)) (q : List ℕ) (list : List ℕ)
    → ((j : ℕ) → Contains list j ↔ Contains (names_of (get_or members j [])) q)
    → list_any tells list ≡ any_below (λ j. tells j && is_declared (get_or members j []) q) (length members)
declared_by_any tells members q list same = same_bool (list_any tells list) (any_below test (length members)) to from
  where
    test : ℕ → Bool
    test j = tells j && is_declared (get_or members j []) q

    within : (j : ℕ) → Contains (names_of (get_or members j [])) q → j < length members
    within j c = ⊎_elim (λ l. l) (λ l. no_member q
        (subst (λ (xs : List Declaration). Contains (names_of xs) q) (get_or_past members j [] l) c)) (cases_lt j (length members))

    to : list_any tells list ≡ true → any_below test (length members) ≡ true
    to e =
        let k = some_passes tells list e in
        let c = (same k.0).0 k.1 in
        below_from test (length members) k.0 (within k.0 c)
        (and_from (tells k.0) (is_declared (get_or members k.0 []) q) k.2 (declared_from (names_of (get_or members k.0 [])) q 0 c))

    from : any_below test (length members) ≡ true → list_any tells list ≡ true
    from e =
        let k = below_to test (length members) e in
        passes tells list k.0 ((same k.0).1
        (declared_to (names_of (get_or members k.0 [])) q 0 ((and_parts (tells k.0) (is_declared (get_or members k.0 []) q) k.2).1)))
        ((and_parts (tells k.0) (is_declared (get_or members k.0 []) q) k.2).0)
