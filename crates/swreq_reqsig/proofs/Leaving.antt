-- What going through the requirements leaves.
use Rattle.std.proofs.Common.{◌≡◌, ◌∙◌, ◌↔◌, inl, inr, refl, sym, ap, subst, subst₂, ℕ, suc, ◌<◌, ◌≤◌, arith, Bool, true, false, List, [], ◌∷◌, ◌++◌, ◌+◌, length, take, drop, slice_get, Some, append_assoc, length-append}
use Rattle.std.proofs.lemmas.List.{length-replicate, length-set, length-take-le, take-append-drop}
use Rattle.swreq_valid.specs.swreq_derive.Derivation.{AssociatedType, Derivable}
use Rattle.swreq_valid.specs.swreq_derive.Derivation.Source.{SelfOf}
use Rattle.swreq_valid.specs.swreq_derive.Derivation.TermStatement.{Requires}
use Rattle.swreq_valid.specs.swreq_derive.Kept.{DeriveTheSame, Keeps, Owned, owned_facts}
use Rattle.swreq_valid.specs.swreq_derive.Kept.Keeps.{kept, left_out, nothing}
use Rattle.swreq_valid.proofs.swreq_derive.KeptLemmas as derived
use Rattle.swreq_valid.proofs.swreq_derive.LeftOut.{can_go}
use Rattle.swreq_valid.specs.Flags.{chosen}
use Rattle.swreq_print.proofs.swreq_lemmas.Elements.{drop_from}
use Rattle.swreq_reqsig.specs.GoingThrough.{AreAlike, AreGiven, AreKept, IsDecided, without}
use Rattle.swreq_reqsig.specs.GoingThrough.AreKept.{further, whole}
use Rattle.swreq_reqsig.proofs.Choosing.{all_set, chosen_behind, drop_set, drop_unset, flag_before}

module _ (ds : List AssociatedType) (all : List Owned) where
  -- ---- one going through

  pub within : {n : ℕ} {flags : List Bool} → AreKept ds all n flags → n ≤ length all
  within (whole e f) = omega (arith, e)
  within (further r d) = let l = within r in omega (arith, l)

  decided_one : (n : ℕ) (flags a b : List Bool) → IsDecided ds all n flags a → IsDecided ds all n flags b → a ≡ b
  decided_one n flags a b (inl k) (inl h) = k.1 ∙ sym h.1
  decided_one n flags a b (inl k) (inr h) = absurd (h.0 k.0)
  decided_one n flags a b (inr k) (inl h) = absurd (k.0 h.0)
  decided_one n flags a b (inr k) (inr h) = k.1 ∙ sym h.1

  pub left_one : {n : ℕ} {a b : List Bool} → AreKept ds all n a → AreKept ds all n b → a ≡ b
  left_one (whole e f) (whole g h) = f ∙ sym h
  left_one (whole e f) (further r d) = let l = within r in absurd (omega (arith, l, e))
  left_one (further r d) (whole e f) = let l = within r in absurd (omega (arith, l, e))
  left_one (further {n = n} {flags = flags} {left = left} r d) (further {flags = others} {left = other} q c) =
      decided_one n flags left other d (subst (λ z. IsDecided ds all n z other) (sym (left_one r q)) c)

  -- ---- flags

  decided_length : (n : ℕ) (flags left : List Bool) → IsDecided ds all n flags left → length left ≡ length flags
  decided_length n flags left (inl k) = ap length k.1 ∙ length-set flags n false
  decided_length n flags left (inr k) = ap length k.1

  pub left_length : {n : ℕ} {flags : List Bool} → AreKept ds all n flags → length flags ≡ length all
  left_length (whole e f) = ap length f ∙ length-replicate (length all) true
  left_length (further {n = n} {flags = flags} {left = left} r d) = decided_length n flags left d ∙ left_length r

  decided_before : (n : ℕ) (flags left : List Bool) (m : ℕ) → m < n → IsDecided ds all n flags left → slice_get left m ≡ slice_get flags m
  decided_before n flags left m l (inl k) = ap (λ z. slice_get z m) k.1 ∙ flag_before flags n m l
  decided_before n flags left m l (inr k) = ap (λ z. slice_get z m) k.1

  -- those before the place are all there
  pub left_before : {n : ℕ} {flags : List Bool} → AreKept ds all n flags → (m : ℕ) → m < n → slice_get flags m ≡ Some true
  left_before (whole e f) m l = ap (λ z. slice_get z m) f ∙ all_set (length all) m (omega (arith, l, e))
  left_before (further {n = n} {flags = flags} {left = left} r d) m l =
      decided_before n flags left m l d ∙ left_before r m (omega (arith, l))

  -- ---- what is left, as a list

  -- it has what stands before the place, and some of what stands after it
  left_list : (front rest : List Owned) (n : ℕ) (flags : List Bool) → all ≡ front ++ rest → n ≡ length front
      → ((m : ℕ) → m < n → slice_get flags m ≡ Some true) → chosen all flags ≡ front ++ chosen rest (drop n flags)
  left_list front rest n flags e i before =
      ap (λ z. chosen z flags) e
      ∙ chosen_behind front rest flags (λ m l. before m (omega (arith, i, l)))
      ∙ ap (λ (k : ℕ). front ++ chosen rest (drop k flags)) (sym i)

  -- what is left before one decides on the requirement at a place, and the same without it
  pub record IsOneOf (n : ℕ) (flags : List Bool) (front : List Owned) (o : Owned) (behind : List Owned) : Type 0 where
    pub whole_is : chosen all flags ≡ front ++ (o ∷ behind)
    pub others_are : chosen all (without flags n) ≡ front ++ behind

  pub one_of : (front rest : List Owned) (o : Owned) (n : ℕ) (flags : List Bool) → all ≡ front ++ (o ∷ rest) → n ≡ length front
      → AreKept ds all (suc n) flags
      → IsOneOf n flags front o (chosen rest (drop (suc n) flags))
  one_of front rest o n flags e i r =
      let set : slice_get flags n ≡ Some true = left_before r n (omega arith) in
      let before : (m : ℕ) → m < n → slice_get flags m ≡ Some true = λ m l. left_before r m (omega (arith, l)) in record {
        whole_is = left_list front (o ∷ rest) n flags e i before ∙ ap (λ z. front ++ chosen (o ∷ rest) z) (drop_set flags n set);
        others_are = left_list front (o ∷ rest) n (without flags n) e i (λ m l. flag_before flags n m l ∙ before m l)
            ∙ ap (λ z. front ++ chosen (o ∷ rest) z) (drop_unset flags n set);
      }

  -- ---- what is left is what is kept

  decided_keeps : (front rest : List Owned) (o : Owned) (n : ℕ) (flags left : List Bool)
      → IsOneOf n flags front o (chosen rest (drop (suc n) flags))
      → slice_get flags n ≡ Some true → IsDecided ds all n flags left → Keeps ds (front ++ o ∷ []) rest (chosen rest (drop (suc n) flags))
      → Keeps ds front (o ∷ rest) (chosen (o ∷ rest) (drop n left))
  decided_keeps front rest o n flags left one set (inl k) keeps =
      subst (λ z. Keeps ds front (o ∷ rest) (chosen (o ∷ rest) z)) (sym (ap (drop n) k.1 ∙ drop_unset flags n set))
      (left_out keeps (subst₂ (λ a b. DeriveTheSame ds a b) one.others_are one.whole_is k.0))
  decided_keeps front rest o n flags left one set (inr k) keeps =
      subst (λ z. Keeps ds front (o ∷ rest) (chosen (o ∷ rest) z)) (sym (ap (drop n) k.1 ∙ drop_set flags n set))
      (kept keeps (λ same. k.0 (subst₂ (λ a b. DeriveTheSame ds a b) (sym one.others_are) (sym one.whole_is) same)))

  left_keeps : {n : ℕ} {flags : List Bool} → AreKept ds all n flags → (front rest : List Owned) → all ≡ front ++ rest → n ≡ length front
      → Keeps ds front rest (chosen rest (drop n flags))
  left_keeps (whole e f) front [] s i = nothing
  left_keeps (whole e f) front (o ∷ rest) s i =
      absurd (let c = ap length s in let d = length-append front (o ∷ rest) in omega (arith, c, d, e, i))
  left_keeps (further r d) front [] s i =
      absurd (let l = within r in let c = ap length s in let b = length-append front [] in omega (arith, l, c, b, i))
  left_keeps (further {n = n} {flags = flags} {left = left} r d) front (o ∷ rest) s i =
      decided_keeps front rest o n flags left (one_of front rest o n flags s i r) (left_before r n (omega arith)) d
      (left_keeps r (front ++ o ∷ []) rest (s ∙ sym (append_assoc front (o ∷ []) rest))
      (let c = length-append front (o ∷ []) in omega (arith, c, i)))

  pub given_keeps : {flags : List Bool} → AreGiven ds all flags → Keeps ds [] all (chosen all flags)
  given_keeps g = left_keeps g [] all refl refl

  -- ---- the same is derivable

  pub left_same : {n : ℕ} {flags : List Bool} → AreKept ds all n flags → DeriveTheSame ds (chosen all flags) all
  left_same {n = n} {flags = flags} r =
      let split : all ≡ take n all ++ drop n all = sym (take-append-drop n all) in
      let count : n ≡ length (take n all) = sym (length-take-le n all (within r)) in
      subst₂ (λ a b. DeriveTheSame ds a b) (sym (left_list (take n all) (drop n all) n flags split count (left_before r))) (sym split)
      (derived.left_same (left_keeps r (take n all) (drop n all) split count))

  -- ---- none can be left out

  pub given_needed : (flags : List Bool) → AreGiven ds all flags → (before after : List Owned) (o : Owned)
      → chosen all flags ≡ before ++ (o ∷ after)
      → DeriveTheSame ds (before ++ after) (chosen all flags) → ⊥
  given_needed flags g before after o e same = derived.family_minimal ds all (chosen all flags) before after o (given_keeps g) e same

  -- ---- one requirement

  -- A requirement that is derivable with those that are left can be left out of them where it is derivable without it.
  pub alike_where_derivable : (flags : List Bool) (n : ℕ) (o : Owned) → slice_get all n ≡ Some o → AreKept ds all (suc n) flags
      → Derivable (owned_facts ds (chosen all flags)) (SelfOf o.proto) (Requires o.requirement)
      → AreAlike ds all (without flags n) flags
      ↔ Derivable (owned_facts ds (chosen all (without flags n))) (SelfOf o.proto) (Requires o.requirement)
  alike_where_derivable flags n o at r e =
      let next : drop n all ≡ o ∷ drop (suc n) all =
      drop_from all n o at ∙ ap (λ (k : ℕ). o ∷ drop k all) (let s : n + 1 ≡ suc n = omega arith in s) in
      let split : all ≡ take n all ++ (o ∷ drop (suc n) all) = sym (take-append-drop n all) ∙ ap (λ z. take n all ++ z) next in
      let count : n ≡ length (take n all) = sym (length-take-le n all (let l = within r in omega (arith, l))) in
      let behind : List Owned = chosen (drop (suc n) all) (drop (suc n) flags) in
      let one : IsOneOf n flags (take n all) o behind = one_of (take n all) (drop (suc n) all) o n flags split count r in (
        (λ alike. (alike o.proto (Requires o.requirement)).1 e),
        λ k. subst₂ (λ a b. DeriveTheSame ds a b) (sym one.others_are) (sym one.whole_is)
            (can_go ds (take n all) behind o
            (subst (λ z. Derivable (owned_facts ds z) (SelfOf o.proto) (Requires o.requirement)) one.others_are k)),
      )
