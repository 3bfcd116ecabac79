-- Queries that are judged in turns.
use Rattle.std.proofs.Common.{◌≡◌, ◌≢◌, ◌∙◌, refl, sym, ap, subst, ℕ, zero, suc, ◌+◌, ◌<◌, ◌≤◌, arith, List, [], ◌∷◌, ◌++◌, ◌⊎◌, inl, inr, length, set, Contains}
use Rattle.std.specs.Prelude.{Some, slice_get}
use Rattle.std.specs.List.Sorted.{IsPermutation}
use Rattle.std.proofs.lemmas.List.Elements.{Contains-append_left, Contains-push, Contains-push_cases}
use Rattle.std.proofs.lemmas.List.Sorted.{Contains-permutation, IsPermutation-sym}
use Rattle.std.proofs.lemmas.Bool.{cases_lt}
use Rattle.std.proofs.lemmas.List.{length-set}
use Rattle.std.proofs.lemmas.Option.{slice_get-get_or, slice_get_within}
use Rattle.swreq_world.proofs.swreq_lemmas.Members.{no_member}
use Rattle.swreq_world.specs.Worlds.{TextWorld}
use Rattle.swreq_verify.specs.declared.judging.Judgement.{Judgement}
use Rattle.swreq_verify.specs.declared.turns.Turn.{Turn}
use Rattle.swreq_verify.specs.Outputs.{AreJudged, IsSaidAt}
use Rattle.swreq_verify.specs.SecondParts.{TermSection}
use Rattle.swreq_verify.specs.Turns.{AreTurns, HasTurn}

-- ---- turns

pub no_turns : AreTurns [] 0
no_turns = record { within = λ t h. no_member t h; all = λ k l. absurd (omega (arith, l)) }

pub one_turn_more : (turns more : List Turn) (t : Turn) (k : ℕ) → AreTurns turns k → t.query ≡ k
    → more ≡ turns ++ (t ∷ []) → AreTurns more (k + 1)
one_turn_more turns more t k are is e = subst (λ z. AreTurns z (k + 1)) (sym e) (record { within = within; all = all })
  where
    within : (u : Turn) → Contains (turns ++ (t ∷ [])) u → u.query < k + 1
    within u h = elim (Contains-push_cases turns t u h) [
      | inl there ↦ (let l = are.within u there in omega (arith, l))
      | inr same ↦ (let n : u.query ≡ k = ap (λ (z : Turn). z.query) (sym same) ∙ is in omega (arith, n))
    ]

    all : (i : ℕ) → i < k + 1 → HasTurn (turns ++ (t ∷ [])) i
    all i l = elim (cases_lt i k) [
      | inl below ↦ (let h = are.all i below in (h.0, Contains-append_left turns (t ∷ []) h.0 h.1, h.2))
      | inr most ↦ (t, Contains-push turns t, (let here : k ≡ i = omega (arith, l, most) in is ∙ here))
    ]

pub moved_turns : (turns moved : List Turn) (k : ℕ) → IsPermutation turns moved → AreTurns turns k → AreTurns moved k
moved_turns turns moved k order are = record {
  within = λ t h. are.within t (Contains-permutation moved turns t (IsPermutation-sym turns moved order) h);
  all = λ i l. (let h = are.all i l in (h.0, Contains-permutation turns moved h.0 order h.1, h.2));
}

-- ---- a list with another element at a place

get_set : {A : Type 0} (xs : List A) (k i : ℕ) (x y : A) → slice_get (set xs k x) i ≡ Some y
    → ((i ≡ k) × (x ≡ y)) ⊎ ((i ≢ k) × (slice_get xs i ≡ Some y))
get_set [] k i x y e = absurd cc
get_set (a ∷ xs) zero zero x y e = inl (refl, cc)
get_set (a ∷ xs) zero (suc i) x y e = inr ((λ n. omega (arith, n)), e)
get_set (a ∷ xs) (suc k) zero x y e = inr ((λ n. omega (arith, n)), e)
get_set (a ∷ xs) (suc k) (suc i) x y e = elim (get_set xs k i x y e) [
  | inl h ↦ inl (ap suc h.0, h.1)
  | inr h ↦ inr ((λ n. h.0 (omega (arith, n))), h.1)
]

module _ (w : TextWorld) (ss : List TermSection) where
  -- There is a judgement for each query, and those on the queries that had their turns before this one are right.
  pub record AreJudgedBefore (turns : List Turn) (js : List Judgement) (n : ℕ) : Type 0 where
    pub count : length js ≡ length w.queries
    pub each : (m : ℕ) (t : Turn) (j : Judgement) → m < n → slice_get turns m ≡ Some t → slice_get js t.query ≡ Some j
        → IsSaidAt w ss t.query j

  pub none_before : (turns : List Turn) (js : List Judgement) → length js ≡ length w.queries → AreJudgedBefore turns js 0
  none_before turns js e = record { count = e; each = λ m t j l. absurd (omega (arith, l)) }

  pub judged_in_turn : (turns : List Turn) (js : List Judgement) (n : ℕ) (t : Turn) (j : Judgement) → AreJudgedBefore turns js n
      → slice_get turns n ≡ Some t → IsSaidAt w ss t.query j → AreJudgedBefore turns (set js t.query j) (n + 1)
  judged_in_turn turns js n t j before turn said = record { count = length-set js t.query j ∙ before.count; each = each }
    where
      each : (m : ℕ) (v : Turn) (i : Judgement) → m < n + 1 → slice_get turns m ≡ Some v → slice_get (set js t.query j) v.query ≡ Some i
          → IsSaidAt w ss v.query i
      each m v i l at c = elim (get_set js t.query v.query j i c) [
        | inl h ↦ subst (IsSaidAt w ss v.query) h.1 (subst (λ (k : ℕ). IsSaidAt w ss k j) (sym h.0) said)
        | inr h ↦ elim (cases_lt m n) [
          | inl below ↦ before.each m v i below at h.1
          | inr most ↦ (
              let last : m ≡ n = omega (arith, l, most) in
              let same : t ≡ v = cc (turn, at, last) in
              absurd (h.0 (ap (λ (z : Turn). z.query) (sym same))))
        ]
      ]

  pub all_in_turn : (turns : List Turn) (js : List Judgement) (n : ℕ) → AreTurns turns (length w.queries) → AreJudgedBefore turns js n
      → length turns ≤ n → AreJudged w ss js
  all_in_turn turns js n are before enough = record { count = before.count; each = each }
    where
      each : (k : ℕ) (j : Judgement) → slice_get js k ≡ Some j → IsSaidAt w ss k j
      each k j c =
          let within = slice_get_within js k j c in
          let count = before.count in
          let h = are.all k (omega (arith, within, count)) in
          let there = h.1 in
          let at : slice_get turns there.0 ≡ Some h.0 = slice_get-get_or turns there.0 h.0 there.1 ∙ ap Some there.2 in
          let before_end : there.0 < n = (let l = there.1 in omega (arith, l, enough)) in
          subst (λ (i : ℕ). slice_get js i ≡ Some j → IsSaidAt w ss i j) h.2 (before.each there.0 h.0 j before_end at) c
