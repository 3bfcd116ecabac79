-- One candidate more that is taken or skipped, and one generator more that is dropped or kept.
use Rattle.std.proofs.Common.{◌≡◌, ◌∙◌, ◌⊎◌, inl, inr, refl, sym, ap, ap₂, subst, subst₂, ◌<◌, ◌≤◌, ◌+◌, ◌-◌, arith, ℕ, suc, List, [], ◌∷◌, ◌++◌, take, drop, get_or, length, Contains, append-nil, append_assoc, drop-cons, length-append, length-take-le}
use Rattle.std.specs.Prelude.{insert, remove}
use Rattle.std.proofs.Math.Seq.{drop-append_seam, take-append_seam}
use Rattle.std.proofs.lemmas.List.{drop_all, length-map, map-append, map_more, take-append-drop, take_all, take_more}
use Rattle.std.proofs.lemmas.List.Elements.{Contains-append_cases, Contains-append_left, Contains-append_right}
use Rattle.swreq_machine.proofs.swreq_lemmas.Elements.{same_heads, same_tails}
use Rattle.swreq_machine.proofs.swreq_lemmas.Members.{later_member}
use Rattle.std.proofs.lemmas.List.Edits.{remove-append_right}
use Rattle.swreq_machine.specs.swreq_param.declared.ids.ParamId.{ParamId}
use Rattle.swreq_machine.specs.swreq_param.Terms.{Term}
use Rattle.swreq_homotopy.proofs.swreq_word.Cuts.{same_cut}
use Rattle.swreq_machine.specs.swreq_derive.declared.requirements.Requirement.{Requirement}
use Rattle.swreq_machine.specs.swreq_derive.Derivation.{Derivable, TermFacts, TermRequirement}
use Rattle.swreq_machine.specs.swreq_derive.Derivation.Source.{Written}
use Rattle.swreq_machine.specs.swreq_derive.Derivation.TermStatement.{Requires}
use Rattle.swreq_machine.specs.swreq_derive.Facts.{requirement_of}
use Rattle.swreq_candidates.specs.swreq_canonical.Generators.{Takes}
use Rattle.swreq_candidates.specs.swreq_canonical.Generators.Takes.{ended, skipped, taken}
use Rattle.swreq_candidates.specs.swreq_canonical.Minimised.{Leaves}
use Rattle.swreq_candidates.specs.swreq_canonical.Minimised.Leaves.{dropped, kept, nothing}
use Rattle.swreq_machine.specs.swreq_valid.Plans.{listed}
use Rattle.swreq_minimal.specs.Passed.{IsLastNeeded, IsLeftFrom, IsLeftWithout, IsTakenBefore}

module _ (f : TermFacts) (ps : List ParamId) where
  -- ---- taking

  pub skip_last : {before cs out : List TermRequirement} (r : TermRequirement) → Takes f ps before cs out
      → Derivable f (Written ps out) (Requires r)
      → Takes f ps before (cs ++ r ∷ []) out
  skip_last r ended h = skipped h ended
  skip_last r (skipped d t) h = skipped d (skip_last r t h)
  skip_last r (taken n t) h = taken n (skip_last r t h)

  pub take_last : {before cs out : List TermRequirement} (r : TermRequirement) → Takes f ps before cs out
      → (Derivable f (Written ps out) (Requires r) → ⊥)
      → Takes f ps before (cs ++ r ∷ []) (out ++ r ∷ [])
  take_last r ended h = taken h ended
  take_last r (skipped d t) h = skipped d (take_last r t h)
  take_last r (taken n t) h = taken n (take_last r t h)

  same_last : (before front : List TermRequirement) (q r : TermRequirement) → before ++ q ∷ [] ≡ front ++ r ∷ []
      → (Derivable f (Written ps before) (Requires q) → ⊥) → Derivable f (Written ps front) (Requires r) → ⊥
  same_last before front q r e n =
      let cut = same_cut before (q ∷ []) front (r ∷ []) e
      (let l = ap length e in omega (arith, l, length-append before (q ∷ []), length-append front (r ∷ []))) in
      subst₂ (λ list one. Derivable f (Written ps list) (Requires one) → ⊥) cut.0 (same_heads cut.1) n

  -- the last one that was taken does not follow from those that were taken before it
  needed : {before cs out : List TermRequirement} (front : List TermRequirement) (r : TermRequirement) → Takes f ps before cs out
      → out ≡ front ++ r ∷ []
      → (before ≡ out) ⊎ (Derivable f (Written ps front) (Requires r) → ⊥)
  needed front r ended e = inl refl
  needed front r (skipped d t) e = needed front r t e
  needed front r (taken n t) e = inr (elim (needed front r t e) [ inl i ↦ same_last _ front _ r (i ∙ e) n | inr h ↦ h ])

  pub last_needed : {cs out : List TermRequirement} → Takes f ps [] cs out → IsLastNeeded f ps out
  last_needed t front r e h = elim (needed front r t e) [
    | inl i ↦ (let l = ap length (i ∙ e) in absurd (omega (arith, l, length-append front (r ∷ []))))
    | inr n ↦ n h
  ]

  module _ (terms : List Term) (cs : List Requirement) (k : ℕ) (d : Requirement) (l : k < length cs) where
    -- one candidate more
    pub next_taken : (out : List TermRequirement)
        → Takes f ps [] (listed terms (take k cs) ++ requirement_of terms (get_or cs k d) ∷ []) out
        → Takes f ps [] (listed terms (take (k + 1) cs)) out
    next_taken out t = subst (λ z. Takes f ps [] z out) (sym (map_more (requirement_of terms) cs k d l)) t

    pub taken_before : (out : List TermRequirement) → Takes f ps [] (listed terms (take k cs)) out
        → IsTakenBefore f ps (listed terms cs) out
    taken_before out t = record {
      before = listed terms (take k cs);
      candidate = requirement_of terms (get_or cs k d);
      after = listed terms (drop (suc k) cs);
      split = ap (listed terms) (sym (take-append-drop k cs) ∙ ap (λ z. take k cs ++ z) (drop-cons cs k d l))
          ∙ map-append (requirement_of terms) (take k cs) (get_or cs k d ∷ drop (suc k) cs);
      taken = t;
    }

  -- ---- dropping

  pub all_there : (n : ℕ) (all : List TermRequirement) → length all ≤ n → IsLeftFrom f ps n all all
  all_there n all l = (
    [],
    sym (append-nil (take n all) ∙ take_all n all l),
    subst (λ z. Leaves f ps (take n all) z []) (sym (drop_all n all l)) nothing,
  )

  pub all_passed : (all now : List TermRequirement) → IsLeftFrom f ps 0 all now → Leaves f ps [] all now
  all_passed all now (out, e, h) = subst (Leaves f ps [] all) (sym e) h

  module _ (all now : List TermRequirement) (k : ℕ) (d : TermRequirement) (l : k < length all)
      (left : IsLeftFrom f ps (k + 1) all now) where
    abbrev r : TermRequirement
    r = get_or all k d

    pub front_length : length (take k all) ≡ k
    front_length = length-take-le k all (omega (arith, l))

    pub now_is : now ≡ take k all ++ r ∷ left.0
    now_is = left.1 ∙ (ap (λ z. z ++ left.0) (take_more all k d l) ∙ append_assoc (take k all) (r ∷ []) left.0)

    pub leaves_behind : Leaves f ps (take k all ++ r ∷ []) (drop (k + 1) all) left.0
    leaves_behind = subst (λ z. Leaves f ps z (drop (k + 1) all) left.0) (take_more all k d l) left.2

    rest_is : drop k all ≡ r ∷ drop (k + 1) all
    rest_is = drop-cons all k d l ∙ ap (λ n. r ∷ drop n all) (let e : suc k ≡ k + 1 = omega arith in e)

    pub next_left : (new more : List TermRequirement) → new ≡ take k all ++ more → Leaves f ps (take k all) (r ∷ drop (k + 1) all) more
        → IsLeftFrom f ps k all new
    next_left new more e h = (more, e, subst (λ z. Leaves f ps (take k all) z more) (sym rest_is) h)

    pub left_without : (list : List TermRequirement) → list ≡ take k all ++ left.0 → IsLeftWithout f ps all list
    left_without list e = record {
      front = take k all;
      generator = r;
      behind = drop (k + 1) all;
      left = left.0;
      split = sym (take-append-drop k all) ∙ ap (λ z. take k all ++ z) rest_is;
      leaves = leaves_behind;
      list_is = e;
    }

  -- the last one was gone through, and is needed
  pub last_stays : (n : ℕ) (all : List TermRequirement) (d : TermRequirement) → n ≡ length all - 1 → IsLastNeeded f ps all
      → IsLeftFrom f ps n all all
  unfolding all_there
  last_stays n [] d e is_needed = all_there n [] (omega (arith, e))
  last_stays n (x ∷ xs) d e is_needed =
      let all = x ∷ xs in
      let l : n < length all = omega (arith, e) in
      let there = all_there (n + 1) all (omega (arith, e)) in
      let is = now_is all all n d l there in
      next_left all all n d l there all (get_or all n d ∷ []) is
      (kept (leaves_behind all all n d l there) (λ h. is_needed (take n all) (get_or all n d) is
      (subst (λ z. Derivable f (Written ps z) (Requires (get_or all n d))) (append-nil (take n all)) h)))

-- ---- one of a list is removed, and put back

module _ {X : Type 0} where
  pub removed : (front out : List X) (x : X) (k : ℕ) → length front ≡ k → remove (front ++ x ∷ out) k ≡ front ++ out
  removed front out x k e =
      remove-append_right front (x ∷ out) k k e (omega arith) ∙ ap (λ n. front ++ remove (x ∷ out) n) (let z : k - k ≡ 0 = omega arith in z)

  pub inserted : (front out : List X) (x : X) (k : ℕ) → length front ≡ k → insert (front ++ out) k x ≡ front ++ x ∷ out
  inserted front out x k e =
      subst (λ n. insert (front ++ out) n x ≡ front ++ x ∷ out) e
      (ap₂ (λ u v. u ++ x ∷ v) (take-append_seam front out) (drop-append_seam front out))

  pub parted : (xs : List X) (k : ℕ) (d : X) → k < length xs → xs ≡ take k xs ++ get_or xs k d ∷ drop (suc k) xs
  parted xs k d l = sym (take-append-drop k xs) ∙ ap (λ z. take k xs ++ z) (drop-cons xs k d l)

module _ (terms : List Term) (now : List Requirement) (k : ℕ) (d : Requirement) (l : k < length now) where
  abbrev one : Requirement
  one = get_or now k d

  own_length : length (take k now) ≡ k
  own_length = length-take-le k now (omega (arith, l))

  pub without : remove now k ≡ take k now ++ drop (suc k) now
  without = ap (λ z. remove z k) (parted now k d l) ∙ removed (take k now) (drop (suc k) now) one k own_length

  pub put_back : insert (remove now k) k one ≡ now
  put_back = ap (λ z. insert z k one) without ∙ (inserted (take k now) (drop (suc k) now) one k own_length ∙ sym (parted now k d l))

  pub there_before : (q : Requirement) → Contains (remove now k) q → Contains now q
  there_before q h = elim (Contains-append_cases (take k now) (drop (suc k) now) q (subst (λ z. Contains z q) without h)) [
    | inl i ↦ subst (λ z. Contains z q) (sym (parted now k d l)) (Contains-append_left (take k now) (one ∷ drop (suc k) now) q i)
    | inr i ↦ subst (λ z. Contains z q) (sym (parted now k d l))
        (Contains-append_right (take k now) (one ∷ drop (suc k) now) q (later_member one q (drop (suc k) now) i))
  ]

  module _ (front out : List TermRequirement) (r : TermRequirement) (is : listed terms now ≡ front ++ r ∷ out) (e : length front ≡ k) where
    cut : (listed terms (take k now) ≡ front) × (requirement_of terms one ∷ listed terms (drop (suc k) now) ≡ r ∷ out)
    cut = same_cut (listed terms (take k now)) (requirement_of terms one ∷ listed terms (drop (suc k) now)) front (r ∷ out)
        (sym (map-append (requirement_of terms) (take k now) (one ∷ drop (suc k) now)) ∙ (ap (listed terms) (sym (parted now k d l)) ∙ is))
        (length-map (take k now) (requirement_of terms) ∙ (own_length ∙ sym e))

    pub one_is : requirement_of terms one ≡ r
    one_is = same_heads cut.1

    pub others_are : listed terms (remove now k) ≡ front ++ out
    others_are =
        ap (listed terms) without ∙ (map-append (requirement_of terms) (take k now) (drop (suc k) now) ∙ ap₂ ◌++◌ cut.0 (same_tails cut.1))

-- what is dropped, and what is kept
module _ (f : TermFacts) (ps : List ParamId) (terms : List Term) (now : List Requirement) (k : ℕ) (d : Requirement)
    (l : k < length now) where
  abbrev Derives : Type 0
  Derives = Derivable f (Written ps (listed terms (remove now k))) (Requires (requirement_of terms (get_or now k d)))

  abbrev pub LeavesNow : List Requirement → Type 0
  LeavesNow new = (front behind out : List TermRequirement) (r : TermRequirement) → listed terms now ≡ front ++ r ∷ out → length front ≡ k
      → Leaves f ps (front ++ r ∷ []) behind out → (more : List TermRequirement) × (listed terms new ≡ front ++ more)
      × Leaves f ps front (r ∷ behind) more

  pub one_dropped : Derives → LeavesNow (remove now k)
  one_dropped h front behind out r is e leaves =
      let others = others_are terms now k d l front out r is e in (
        out,
        others,
        dropped leaves (subst (λ z. Derivable f (Written ps (front ++ out)) (Requires z)) (one_is terms now k d l front out r is e)
            (subst (λ z. Derivable f (Written ps z) (Requires (requirement_of terms (get_or now k d)))) others h)),
      )

  pub one_kept : (Derives → ⊥) → LeavesNow (insert (remove now k) k (get_or now k d))
  one_kept n front behind out r is e leaves =
      let others = others_are terms now k d l front out r is e in (
        r ∷ out,
        ap (listed terms) (put_back terms now k d l) ∙ is,
        kept leaves (λ h. n (subst (λ z. Derivable f (Written ps z) (Requires (requirement_of terms (get_or now k d)))) (sym others)
            (subst (λ z. Derivable f (Written ps (front ++ out)) (Requires z)) (sym (one_is terms now k d l front out r is e)) h))),
      )

-- ---- the one at a place, where those after it were gone through

module _ (f : TermFacts) (ps : List ParamId) (terms : List Term) (all : List TermRequirement) (now : List Requirement) (k : ℕ)
    (any : Requirement)
    (within : suc k ≤ length all) (left : IsLeftFrom f ps (suc k) all (listed terms now)) where
  abbrev d : TermRequirement
  d = requirement_of terms any

  place_within : k < length all
  place_within = omega (arith, within)

  left_on : IsLeftFrom f ps (k + 1) all (listed terms now)
  left_on = subst (λ n. IsLeftFrom f ps n all (listed terms now)) (let e : suc k ≡ k + 1 = omega arith in e) left

  front_is : length (take k all) ≡ k
  front_is = front_length f ps all (listed terms now) k d place_within left_on

  list_is : listed terms now ≡ take k all ++ get_or all k d ∷ left_on.0
  list_is = now_is f ps all (listed terms now) k d place_within left_on

  -- it is there
  pub within_now : k < length now
  within_now =
      let e = ap length list_is in
      let n = length-map now (requirement_of terms) in
      let a = length-append (take k all) (get_or all k d ∷ left_on.0) in
      let b = front_is in
      omega (arith, e, n, a, b)

  -- this is left without it
  pub is_without : IsLeftWithout f ps all (listed terms (remove now k))
  is_without =
      left_without f ps all (listed terms now) k d place_within left_on (listed terms (remove now k))
      (others_are terms now k any within_now (take k all) left_on.0 (get_or all k d) list_is front_is)

  -- and then it was gone through
  pub passed_on : (new : List Requirement) → LeavesNow f ps terms now k any within_now new → IsLeftFrom f ps k all (listed terms new)
  passed_on new leaves =
      let (more, e, h) = leaves (take k all) (drop (k + 1) all) left_on.0 (get_or all k d) list_is front_is
      (leaves_behind f ps all (listed terms now) k d place_within left_on) in
      next_left f ps all (listed terms now) k d place_within left_on (listed terms new) more e h
