-- The first of several refusals, where of some of them the first is known.
use Rattle.std.proofs.Common.{◌≡◌, ℕ, ◌+◌, ◌<◌, ◌≤◌, inl, inr, Bool, true, false, cond, List, [], ◌∷◌, Option, None, Some, Contains, length, get_or, drop, sym, ap, subst, ◌∙◌, true≢false, refl}
use Rattle.std.specs.List.{flat_map}
use Rattle.std.proofs.lemmas.List.{at_drop_all, at_drop_more}
use Rattle.swreq_print.proofs.swreq_lemmas.Members.{first_member, later_member, member_cases, no_member, only_member}
use Rattle.swreq_resolve.specs.declared.refusal.Refusal.{Refusal}
use Rattle.swreq_resolve.specs.First.{IsFirst, earlier, least, precedes}
use Rattle.swreq_resolve.proofs.Order.{least_is_first, none_refused, one_first}
use Rattle.swreq_resolve.proofs.Walks.{least_both}

-- ---- the first, as it is found

first_is : (rs : List Refusal) (r : Refusal) → IsFirst rs r → least None rs ≡ Some r
first_is rs r is = by (least None rs) refl
  where
    by : (o : Option Refusal) → least None rs ≡ o → least None rs ≡ Some r
    by None e = no_member r (subst (λ qs. Contains qs r) (none_refused rs e) is.is)
    by (Some q) e = e ∙ ap (λ (x : Refusal). Some x) (one_first rs q r (least_is_first rs q e) is)

-- ---- the order

precedes_itself : (b : Refusal) → precedes b b ≡ false
precedes_itself b = (least_is_first (b ∷ []) b refl).first b (first_member b [])

precedes_once : (r b : Refusal) → precedes r b ≡ true → precedes b r ≡ false
precedes_once r b h =
    (least_is_first (b ∷ r ∷ []) r (ap (λ t. cond t (Some r) (Some b)) h)).first b (first_member b (r ∷ []))

first_of_two : (a b : Refusal) (r : Refusal) → Contains (a ∷ b ∷ []) r → precedes a r ≡ false → precedes b r ≡ false
    → IsFirst (a ∷ b ∷ []) r
first_of_two a b r c h k = record {
  is = c;
  first = λ q d. elim (member_cases a q (b ∷ []) d) [
    | inl e ↦ subst (λ z. precedes z r ≡ false) (sym e) h
    | inr e ↦ subst (λ z. precedes z r ≡ false) (sym (only_member b q e)) k
  ];
}

-- Two of which neither precedes the other are one.
same_place : (a b : Refusal) → precedes a b ≡ false → precedes b a ≡ false → a ≡ b
same_place a b h k =
    one_first (a ∷ b ∷ []) a b (first_of_two a b a (first_member a (b ∷ [])) (precedes_itself a) k)
    (first_of_two a b b (later_member a b (b ∷ []) (first_member b [])) h (precedes_itself b))

not_before : (q r b : Refusal) → precedes q r ≡ false → precedes r b ≡ false → precedes q b ≡ false
not_before q r b h k = by (precedes q b) refl
  where
    found : (t : Bool) → precedes b r ≡ t → precedes q b ≡ true → least None (r ∷ b ∷ q ∷ []) ≡ Some q
    found true e m = ap (λ t. earlier (cond t (Some b) (Some r)) q) e ∙ ap (λ t. cond t (Some q) (Some b)) m
    found false e m =
        let same = same_place b r e k in
        absurd (true≢false (sym m ∙ ap (λ z. precedes q z) same ∙ h))

    by : (t : Bool) → precedes q b ≡ t → precedes q b ≡ false
    by false e = e
    by true e =
        let first = least_is_first (r ∷ b ∷ q ∷ []) q (found (precedes b r) refl e) in
        let same = same_place q r h (first.first r (first_member r (b ∷ q ∷ []))) in
        absurd (true≢false (sym e ∙ ap (λ z. precedes z b) same ∙ k))

-- ---- after others

-- The first of some refusals stands for all of them.
pub first_after : (best : Option Refusal) (rs : List Refusal) (r : Refusal) → IsFirst rs r → earlier best r ≡ least best rs
first_after None rs r is = sym (first_is rs r is)
first_after (Some b) rs r is = by (precedes r b) refl
  where
    here : IsFirst (b ∷ rs) r → Some r ≡ least (Some b) rs
    here h = sym (first_is (b ∷ rs) r h)

    by : (t : Bool) → precedes r b ≡ t → cond t (Some r) (Some b) ≡ least (Some b) rs
    by true e = here (record {
      is = later_member b r rs is.is;
      first = λ q c. elim (member_cases b q rs c) [
        | inl same ↦ subst (λ z. precedes z r ≡ false) (sym same) (precedes_once r b e)
        | inr other ↦ is.first q other
      ];
    })
    by false e = sym (first_is (b ∷ rs) b (record {
      is = first_member b rs;
      first = λ q c. elim (member_cases b q rs c) [
        | inl same ↦ subst (λ z. precedes z b ≡ false) (sym same) (precedes_itself b)
        | inr other ↦ not_before q r b (is.first q other) e
      ];
    }))

-- ---- one part after another

pub more_parts : {A : Type 0} (f : A → List Refusal) (xs : List A) (i : ℕ) (x : A) (b c start : Option Refusal)
    → i < length xs → x ≡ get_or xs i x
    → c ≡ least b (f x) → least b (flat_map f (drop i xs)) ≡ start → least c (flat_map f (drop (i + 1) xs)) ≡ start
more_parts f xs i x b c start h e k inv =
    (λ j. least (k j) (flat_map f (drop (i + 1) xs)))
    ∙ (λ j. least (least b (f (e j))) (flat_map f (drop (i + 1) xs)))
    ∙ sym (least_both b (f (get_or xs i x)) (flat_map f (drop (i + 1) xs)))
    ∙ sym (at_drop_more (λ ys. least b (flat_map f ys)) xs i x h)
    ∙ inv

pub all_parts : {A : Type 0} (f : A → List Refusal) (xs : List A) (i : ℕ) (b start : Option Refusal) → length xs ≤ i
    → least b (flat_map f (drop i xs)) ≡ start → b ≡ start
all_parts f xs i b start h inv = sym (at_drop_all (λ ys. least b (flat_map f ys)) xs i h) ∙ inv
