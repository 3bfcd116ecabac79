-- A span of a list is gone through by halves: the rules for each half, and what is left in all.
use Rattle.std.proofs.Common.{◌≡◌, ◌↔◌, ◌∙◌, inl, inr, sym, ap, ap₂, subst, subst₂, ◌<◌, ◌≤◌, ◌+◌, ◌-◌, ◌/◌, arith, ℕ, suc, List, ◌++◌, take, drop, length, Contains, Option, Some, None, IfSome, append_assoc, length-append, length-take-le}
use Rattle.std.specs.Borrow.{Bor}
use Rattle.std.specs.Option.{option_copied}
use Rattle.std.proofs.lemmas.Bool.{cases_lt}
use Rattle.std.proofs.Math.Seq.{drop-append_seam, take-append-add, take-append_seam}
use Rattle.std.proofs.lemmas.List.{length-drop, map-append, take-append-drop}
use Rattle.std.proofs.lemmas.List.Elements.{Contains-append_cases, Contains-append_left, Contains-append_right}
use Rattle.swreq_machine.specs.swreq_derive.declared.requirements.Requirement.{Requirement}
use Rattle.swreq_machine.specs.swreq_derive.Derivation.{TermRequirement}
use Rattle.swreq_list_rules.specs.declared.setting.Setting.{Setting}
use Rattle.swreq_list_rules.specs.ListRules.{AreOfList, ListRulesView}
use Rattle.swreq_list_rules.specs.Settings.{said_in, says_in}
use Rattle.swreq_list_rules.proofs.Growing.{same_list}
use Rattle.swreq_minimal.specs.Halves.{AreGrownBy}

-- ---- places

module _ {X : Type 0} (xs : List X) (from middle to : ℕ) (a : from ≤ middle) (b : middle ≤ to) (c : to ≤ length xs) where
  -- what stands from one place up to another
  abbrev first : List X
  first = take (middle - from) (drop from xs)

  front_length : length (take from xs) ≡ from
  front_length = length-take-le from xs (omega (arith, a, b, c))

  middle_length : length (take middle xs) ≡ middle
  middle_length = length-take-le middle xs (omega (arith, b, c))

  pub front_is : take middle xs ≡ take from xs ++ first
  front_is =
      let n = front_length in
      let e : middle ≡ length (take from xs) + (middle - from) = omega (arith, a, n) in
      ap (λ k. take k xs) e ∙ (ap (take (length (take from xs) + (middle - from))) (sym (take-append-drop from xs))
      ∙ take-append-add (take from xs) (drop from xs) (middle - from))

  -- the second half was gone through
  module _ (new kept : List X) (is : new ≡ take middle xs ++ (kept ++ drop to xs)) where
    pub front_stays : take from new ≡ take from xs
    front_stays =
        ap (take from) (is ∙ (ap (λ z. z ++ (kept ++ drop to xs)) front_is ∙ append_assoc (take from xs) first (kept ++ drop to xs)))
        ∙ subst (λ n. take n (take from xs ++ (first ++ (kept ++ drop to xs))) ≡ take from xs) front_length
        (take-append_seam (take from xs) (first ++ (kept ++ drop to xs)))

    pub behind_is : drop middle new ≡ kept ++ drop to xs
    behind_is =
        ap (drop middle) is
        ∙ subst (λ n. drop n (take middle xs ++ (kept ++ drop to xs)) ≡ kept ++ drop to xs) middle_length
        (drop-append_seam (take middle xs) (kept ++ drop to xs))

    pub new_length : length new ≡ middle + (length kept + (length xs - to))
    new_length =
        let e = ap length is in
        let n = length-append (take middle xs) (kept ++ drop to xs) in
        let m = length-append kept (drop to xs) in
        let d = length-drop to xs in
        let l = middle_length in
        omega (arith, e, n, m, d, l)

    pub kept_is : take (length new - (length xs - to) - middle) (drop middle new) ≡ kept
    kept_is =
        let n = new_length in
        let e : length new - (length xs - to) - middle ≡ length kept = omega (arith, n) in
        ap₂ take e behind_is ∙ take-append_seam kept (drop to xs)

    -- the first half was gone through after it
    pub both_stay : (last more : List X) → last ≡ take from new ++ (more ++ drop middle new)
        → last ≡ take from xs ++ ((more ++ kept) ++ drop to xs)
    both_stay last more e =
        e ∙ (ap₂ (λ u v. u ++ (more ++ v)) front_stays behind_is ∙ ap (λ z. take from xs ++ z) (sym (append_assoc more kept (drop to xs))))

-- the middle of a span of two places or more stands within it
pub halves : (from to : ℕ) → from < to → (from + (to - from) / 2 ≡ from → ⊥) → (from < from + (to - from) / 2)
    × (from + (to - from) / 2 < to)
halves from to some n = elim (cases_lt from (from + (to - from) / 2)) [
  | inl l ↦ (l, omega (arith, some, l))
  | inr l ↦ absurd (n (omega (arith, l)))
]

-- a span whose middle is its begin has one place
pub one_place : (from to : ℕ) → from < to → from + (to - from) / 2 ≡ from → to ≡ suc from
one_place from to some e = omega (arith, some, e)

-- ---- rules

-- what holds of a value that is there holds of it where it is borrowed
pub where_borrowed : {X : Type 0} (P : X → Type 0) (o : Option (Bor X)) (v : Option X) → option_copied o ≡ v → IfSome v P
    → IfSome o (λ b. P b.now)
where_borrowed P None v e h = tt
where_borrowed P (Some b) v e h = subst (λ z. IfSome z P) (sym e) h

pub if_some_weaker : {X : Type 0} (P Q : X → Type 0) (o : Option X) → ((x : X) → P x → Q x) → IfSome o P → IfSome o Q
if_some_weaker P Q None to h = tt
if_some_weaker P Q (Some x) to h = to x h

module _ {X : Type 0} (a d f : List X) where
  swapped_to : (q : X) → Contains ((a ++ d) ++ f) q → Contains ((a ++ f) ++ d) q
  swapped_to q h = elim (Contains-append_cases (a ++ d) f q h) [
    | inl i ↦ elim (Contains-append_cases a d q i) [
      | inl j ↦ Contains-append_left (a ++ f) d q (Contains-append_left a f q j)
      | inr j ↦ Contains-append_right (a ++ f) d q j
    ]
    | inr i ↦ Contains-append_left (a ++ f) d q (Contains-append_right a f q i)
  ]

module _ (s : Setting) where
  abbrev said : List Requirement → List TermRequirement
  said list = said_in s list

  said_on : (a b : List Requirement) → said (a ++ b) ≡ said a ++ said b
  said_on a b = map-append (says_in s) a b

  -- members more at the end of the front
  with_front : (a d f : List Requirement) (q : TermRequirement) → Contains (said (a ++ d) ++ said f) q ↔ Contains (said ((a ++ f) ++ d)) q
  with_front a d f q =
      let front : said (a ++ d) ++ said f ≡ (said a ++ said d) ++ said f = ap (λ z. z ++ said f) (said_on a d) in
      let whole : said ((a ++ f) ++ d) ≡ (said a ++ said f) ++ said d = said_on (a ++ f) d ∙ ap (λ z. z ++ said d) (said_on a f) in (
        (λ h. subst (λ z. Contains z q) (sym whole) (swapped_to (said a) (said d) (said f) q (subst (λ z. Contains z q) front h))),
        λ h. subst (λ z. Contains z q) (sym front) (swapped_to (said a) (said f) (said d) q (subst (λ z. Contains z q) whole h)),
      )

  module _ (xs : List Requirement) (from middle to : ℕ) (a : from ≤ middle) (b : middle ≤ to) (c : to ≤ length xs) where
    -- outside the second half stand the front with the first half, and what comes after
    pub for_second : (q : TermRequirement)
        → Contains (said (take from xs ++ drop to xs) ++ said (take (middle - from) (drop from xs))) q
        ↔ Contains (said (take middle xs ++ drop to xs)) q
    for_second q =
        subst (λ z. Contains (said (take from xs ++ drop to xs) ++ said (take (middle - from) (drop from xs))) q
        ↔ Contains (said (z ++ drop to xs)) q)
        (sym (front_is xs from middle to a b c)) (with_front (take from xs) (drop to xs) (take (middle - from) (drop from xs)) q)

    -- outside the first half stand the front, and what is left of the second half with what comes after
    pub for_first : (new kept : List Requirement) → new ≡ take middle xs ++ (kept ++ drop to xs) → (q : TermRequirement)
        → Contains (said (take from xs ++ drop to xs) ++ said (take (length new - (length xs - to) - middle) (drop middle new))) q
        ↔ Contains (said (take from new ++ drop middle new)) q
    for_first new kept is q =
        subst₂ (λ x y. Contains (said (take from xs ++ drop to xs) ++ said x) q ↔ Contains (said y) q)
        (sym (kept_is xs from middle to a b c new kept is))
        (append_assoc (take from xs) kept (drop to xs)
        ∙ sym (ap₂ ◌++◌ (front_stays xs from middle to a b c new kept is) (behind_is xs from middle to a b c new kept is)))
        (with_front (take from xs) (drop to xs) kept q)

  -- rules that grew are those of a list with the same members
  pub grown_to : (list : List TermRequirement) (more whole : List Requirement) (old new : ListRulesView)
      → ((q : TermRequirement) → Contains (list ++ said more) q ↔ Contains (said whole) q) → AreOfList s list old
      → AreGrownBy s old more new
      → AreOfList s (said whole) new
  grown_to list more whole old new same are grown =
      same_list s (list ++ said more) (said whole) new (λ q h. (same q).0 h) (λ q h. (same q).1 h) (grown list are)
