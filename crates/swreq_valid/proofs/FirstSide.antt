-- The first side that fails.
use Rattle.std.proofs.Common.{◌≡◌, ◌∙◌, refl, sym, ap, subst, ℕ, ◌<◌, ◌≤◌, ◌+◌, List, [], ◌∷◌, ◌++◌, length, drop, get_or, slice_get, append_assoc, Contains, inl, inr, Option, Some, None, MatchOption, Result, Ok, Err, IfOk}
use Rattle.std.proofs.lemmas.List.{append-nil, drop_more, drop_all}
use Rattle.std.proofs.lemmas.List.Elements.{Contains-append_cases, Contains-append_left, Contains-append_right}
use Rattle.std.proofs.lemmas.Option.{get_or_from_slice_get, slice_get_within}
use Rattle.swreq_complete.proofs.swreq_lemmas.Members.{first_member, later_member, member_cases, no_member, only_member}
use Rattle.swreq_rounds.specs.swreq_param.declared.ids.TermId.{TermId}
use Rattle.swreq_rounds.specs.swreq_param.Tables.{term_at}
use Rattle.swreq_rounds.specs.swreq_param.Terms.{Term}
use Rattle.swreq_rounds.specs.swreq_derive.declared.requirements.Requirement.{Requirement}
use Rattle.swreq_rounds.specs.swreq_derive.declared.requirements.Requirement.TheVariants.{Same}
use Rattle.swreq_rounds.specs.swreq_derive.Derivation.{Source}
use Rattle.swreq_rounds.specs.swreq_derive.Facts.{requirement_of}
use Rattle.swreq_world.specs.swreq_lowering.declared.ids.Written.{Written}
use Rattle.swreq_world.specs.swreq_lowering.ByTable.{placed_by}
use Rattle.swreq_valid.specs.Sides.{FailsFirst, HoldsOfEach, Side, sides_at, sides_of}

same_head : (x y : Side) (xs ys : List Side) → x ∷ xs ≡ y ∷ ys → x ≡ y
same_head x y xs ys e = cc

same_rest : (x y : Side) (xs ys : List Side) → x ∷ xs ≡ y ∷ ys → xs ≡ ys
same_rest x y xs ys e = cc

module _ (P : Side → Type 0) where
  -- what the test of one side tells, and the search through many
  abbrev pub Tested : Side → Option ℕ → Type 0
  Tested s r = MatchOption r (P s) (λ a. (P s → ⊥) × (a ≡ s.at))

  abbrev pub Found : List Side → Option ℕ → Type 0
  Found all r = MatchOption r (HoldsOfEach P all) (FailsFirst P all)

  none_fails : HoldsOfEach P []
  none_fails s k = no_member s k

  one_holds : (s : Side) → P s → HoldsOfEach P (s ∷ [])
  one_holds s h t k = subst P (sym (only_member s t k)) h

  two_hold : (s t : Side) → P s → P t → HoldsOfEach P (s ∷ t ∷ [])
  two_hold s t h k u m = elim (member_cases s u (t ∷ []) m) [ inl e ↦ subst P (sym e) h | inr j ↦ one_holds t k u j ]

  pub head_fails : (s : Side) (rest : List Side) (a : ℕ) → (P s → ⊥) → a ≡ s.at → FailsFirst P (s ∷ rest) a
  head_fails s rest a n e = record { before = []; side = s; after = rest; split = refl; earlier = none_fails; fails = n; at_is = sym e }

  second_fails : (s t : Side) (a : ℕ) → P s → (P t → ⊥) → a ≡ t.at → FailsFirst P (s ∷ t ∷ []) a
  second_fails s t a h n e =
      record { before = s ∷ []; side = t; after = []; split = refl; earlier = one_holds s h; fails = n; at_is = sym e }

  of_one : {E : Type 0} (result : Result (Option ℕ) E) (s : Side) (all : List Side) → all ≡ s ∷ [] → IfOk result (Tested s)
      → IfOk result (Found all)
  of_one (Ok None) s all e h = subst (HoldsOfEach P) (sym e) (one_holds s h)
  of_one (Ok (Some a)) s all e h = subst (λ z. FailsFirst P z a) (sym e) (head_fails s [] a h.0 h.1)
  of_one (Err x) s all e h = tt

  of_second : {E : Type 0} (result : Result (Option ℕ) E) (s t : Side) (first : Option ℕ) (all : List Side)
      → all ≡ s ∷ t ∷ [] → first ≡ None
      → Tested s first → IfOk result (Tested t) → IfOk result (Found all)
  of_second (Ok None) s t first all e n k h = subst (HoldsOfEach P) (sym e) (two_hold s t (subst (Tested s) n k) h)
  of_second (Ok (Some a)) s t first all e n k h = subst (λ z. FailsFirst P z a) (sym e) (second_fails s t a (subst (Tested s) n k) h.0 h.1)
  of_second (Err x) s t first all e n k h = tt

  of_first : (s t : Side) (a : ℕ) (first : Option ℕ) (all : List Side) → all ≡ s ∷ t ∷ [] → first ≡ Some a
      → Tested s first → FailsFirst P all a
  of_first s t a first all e n k = let h = subst (Tested s) n k in subst (λ z. FailsFirst P z a) (sym e) (head_fails s (t ∷ []) a h.0 h.1)

-- ---- the sides of a written requirement

module _ (P : Side → Type 0) (terms : List Term) (s : Source) (written : Written) where
  abbrev its_sides : List Side
  its_sides = sides_of s (placed_by terms written)

  abbrev left_side : TermId → Side
  left_side t = record { source = s; term = term_at terms t; at = written.left_at }

  abbrev right_side : TermId → Side
  right_side t = record { source = s; term = term_at terms t; at = written.right_at }

  abbrev sides_with : Requirement → List Side
  sides_with r = sides_at s (requirement_of terms r) written.left_at written.right_at

  -- it has one side
  pub of_alone : {E : Type 0} (result : Result (Option ℕ) E) (r : Requirement) (t : TermId) → written.requirement ≡ r
      → sides_with r ≡ left_side t ∷ []
      → IfOk result (Tested P (left_side t)) → IfOk result (Found P its_sides)
  of_alone result r t is one h = of_one P result (left_side t) its_sides (ap sides_with is ∙ one) h

  -- it has two
  module _ (t u : TermId) (is : written.requirement ≡ Same t u) (first : Option ℕ) (h : Tested P (left_side t) first) where
    pub of_left : (a : ℕ) → first ≡ Some a → FailsFirst P its_sides a
    of_left a e = of_first P (left_side t) (right_side u) a first its_sides (ap sides_with is) e h

    pub of_right : {E : Type 0} (result : Result (Option ℕ) E) → first ≡ None → IfOk result (Tested P (right_side u))
        → IfOk result (Found P its_sides)
    of_right result e k = of_second P result (left_side t) (right_side u) first its_sides (ap sides_with is) e h k

-- ---- one part after another

-- the sides of the parts before a place hold
pub record SoFar (P : Side → Type 0) (all rest : List Side) : Type 0 where
  pub front : List Side
  pub split : all ≡ front ++ rest
  pub holds : HoldsOfEach P front

module _ (P : Side → Type 0) where
  pub none_yet : (all : List Side) → SoFar P all all
  none_yet all = record { front = []; split = refl; holds = none_fails P }

  pub part_holds : (all here rest : List Side) → SoFar P all (here ++ rest) → HoldsOfEach P here → SoFar P all rest
  part_holds all here rest f h = record {
    front = f.front ++ here;
    split = f.split ∙ sym (append_assoc f.front here rest);
    holds = λ s m. elim (Contains-append_cases f.front here s m) [ inl j ↦ f.holds s j | inr j ↦ h s j ];
  }

  pub part_fails : (all here rest : List Side) (at : ℕ) → SoFar P all (here ++ rest) → FailsFirst P here at → FailsFirst P all at
  part_fails all here rest at f h = record {
    before = f.front ++ h.before;
    side = h.side;
    after = h.after ++ rest;
    split = f.split ∙ ap (λ z. f.front ++ z) (ap (λ z. z ++ rest) h.split ∙ append_assoc h.before (h.side ∷ h.after) rest)
        ∙ sym (append_assoc f.front h.before (h.side ∷ (h.after ++ rest)));
    earlier = λ s m. elim (Contains-append_cases f.front h.before s m) [ inl j ↦ f.holds s j | inr j ↦ h.earlier s j ];
    fails = h.fails;
    at_is = h.at_is;
  }

  pub all_hold : (all : List Side) → SoFar P all [] → HoldsOfEach P all
  all_hold all f = subst (HoldsOfEach P) (sym (f.split ∙ append-nil f.front)) f.holds

-- the sides of a list are those of its items, one part after another
module _ (P : Side → Type 0) {A : Type 0} (of : List A → List Side) (part : A → List Side) (none : of [] ≡ [])
    (one : (x : A) (xs : List A) → of (x ∷ xs) ≡ part x ++ of xs) where
  cut : (xs : List A) (k : ℕ) (d : A) → k < length xs → of (drop k xs) ≡ part (get_or xs k d) ++ of (drop (k + 1) xs)
  cut xs k d l = ap of (drop_more xs k d l) ∙ one (get_or xs k d) (drop (k + 1) xs)

  pub holds_here : (xs : List A) (k : ℕ) (d : A) (found : Option ℕ) → k < length xs → SoFar P (of xs) (of (drop k xs))
      → Found P (part (get_or xs k d)) found
      → found ≡ None → SoFar P (of xs) (of (drop (k + 1) xs))
  holds_here xs k d found l f h n =
      part_holds P (of xs) (part (get_or xs k d)) (of (drop (k + 1) xs)) (subst (SoFar P (of xs)) (cut xs k d l) f)
      (subst (Found P (part (get_or xs k d))) n h)

  pub fails_here : (xs : List A) (k : ℕ) (d : A) (found : Option ℕ) (at : ℕ) → k < length xs → SoFar P (of xs) (of (drop k xs))
      → Found P (part (get_or xs k d)) found
      → found ≡ Some at → FailsFirst P (of xs) at
  fails_here xs k d found at l f h n =
      part_fails P (of xs) (part (get_or xs k d)) (of (drop (k + 1) xs)) at (subst (SoFar P (of xs)) (cut xs k d l) f)
      (subst (Found P (part (get_or xs k d))) n h)

  -- as `holds_here`, where the item is found at its place
  pub holds_at : (xs : List A) (k : ℕ) (x : A) (found : Option ℕ) → slice_get xs k ≡ Some x → SoFar P (of xs) (of (drop k xs))
      → Found P (part x) found
      → found ≡ None → SoFar P (of xs) (of (drop (k + 1) xs))
  holds_at xs k x found e f h n =
      holds_here xs k x found (slice_get_within xs k x e) f
      (subst (λ z. Found P (part z) found) (sym (get_or_from_slice_get xs k x x e)) h) n

  pub fails_at : (xs : List A) (k : ℕ) (x : A) (found : Option ℕ) (at : ℕ) → slice_get xs k ≡ Some x → SoFar P (of xs) (of (drop k xs))
      → Found P (part x) found
      → found ≡ Some at → FailsFirst P (of xs) at
  fails_at xs k x found at e f h n =
      fails_here xs k x found at (slice_get_within xs k x e) f
      (subst (λ z. Found P (part z) found) (sym (get_or_from_slice_get xs k x x e)) h) n

  pub hold_all : (xs : List A) (k : ℕ) → length xs ≤ k → SoFar P (of xs) (of (drop k xs)) → HoldsOfEach P (of xs)
  hold_all xs k l f = all_hold P (of xs) (subst (SoFar P (of xs)) (ap of (drop_all k xs l) ∙ none) f)

-- ---- from one property to another

pub each_to : (P Q : Side → Type 0) (all : List Side) → ((s : Side) → P s → Q s) → HoldsOfEach P all → HoldsOfEach Q all
each_to P Q all to h = λ s k. to s (h s k)

pub first_to : (P Q : Side → Type 0) (all : List Side) (at : ℕ) → ((s : Side) → Contains all s → P s → Q s)
    → ((s : Side) → Contains all s → Q s → P s)
    → FailsFirst P all at → FailsFirst Q all at
first_to P Q all at to back h = record {
  before = h.before;
  side = h.side;
  after = h.after;
  split = h.split;
  earlier = λ s k. to s (within s (Contains-append_left h.before (h.side ∷ h.after) s k)) (h.earlier s k);
  fails =
      λ q. h.fails (back h.side (within h.side (Contains-append_right h.before (h.side ∷ h.after) h.side (first_member h.side h.after))) q);
  at_is = h.at_is;
}
  where
    within : (s : Side) → Contains (h.before ++ (h.side ∷ h.after)) s → Contains all s
    within s k = subst (λ z. Contains z s) (sym h.split) k

-- ---- one answer

pub not_both : (P : Side → Type 0) (all : List Side) (at : ℕ) → HoldsOfEach P all → FailsFirst P all at → ⊥
not_both P all at h f =
    f.fails (h f.side
    (subst (λ z. Contains z f.side) (sym f.split) (Contains-append_right f.before (f.side ∷ f.after) f.side (first_member f.side f.after))))

-- of two cuts of one list, the front of the one holds the first of the other's rest, or the firsts are one
one_cut : (P : Side → Type 0) (xs ys : List Side) (x y : Side) (v w : List Side) → xs ++ (x ∷ v) ≡ ys ++ (y ∷ w)
    → HoldsOfEach P xs → HoldsOfEach P ys
    → (P x → ⊥) → (P y → ⊥) → x ≡ y
one_cut P [] [] x y v w e h k n m = same_head x y v w e
one_cut P [] (z ∷ ys) x y v w e h k n m = absurd (n (subst P (sym (same_head x z v (ys ++ (y ∷ w)) e)) (k z (first_member z ys))))
one_cut P (z ∷ xs) [] x y v w e h k n m = absurd (m (subst P (same_head z y (xs ++ (x ∷ v)) w e) (h z (first_member z xs))))
one_cut P (z ∷ xs) (t ∷ ys) x y v w e h k n m =
    one_cut P xs ys x y v w (same_rest z t (xs ++ (x ∷ v)) (ys ++ (y ∷ w)) e) (λ s c. h s (later_member z s xs c))
    (λ s c. k s (later_member t s ys c)) n m

pub one_first : (P : Side → Type 0) (all : List Side) (at to : ℕ) → FailsFirst P all at → FailsFirst P all to → at ≡ to
one_first P all at to h k =
    sym h.at_is ∙ ap (λ (s : Side). s.at)
    (one_cut P h.before k.before h.side k.side h.after k.after (sym h.split ∙ k.split) h.earlier k.earlier h.fails k.fails) ∙ k.at_is
