-- Marks that are set, and the lines that are needed.
use Rattle.std.proofs.Common.{◌≡◌, ◌⊎◌, inl, inr, ℕ, suc, ◌+◌, ◌-◌, ◌<◌, List, [], ◌∷◌, ◌++◌, Some, Contains, slice_get, sym, subst}
use Rattle.std.proofs.{Common.{◌∙◌, arith}, lemmas.List.Elements.{Contains-append_left, Contains-append_right, Contains-append_cases}}
use Rattle.std.proofs.Math.Nat.{eq-or-lt_of_le}
use Rattle.swreq_derive.{specs.declared.lines.Line.{Line}}
use Rattle.swreq_derivation.specs.Marks.{AreMarked, AreNeeded, IsEarlier, IsMarked}

pub marked_then : (old mid new : List _) (ns : List ℕ) (n below : ℕ) → AreMarked old mid ns below → AreMarked mid new (n ∷ []) below
    → AreMarked old new (ns ++ n ∷ []) below
marked_then old mid new ns n below a b = record {
  count = b.count ∙ a.count;
  stay = λ k h. b.stay k (a.stay k h);
  named = λ m c e. elim (Contains-append_cases ns (n ∷ []) m c) [
    | inl i ↦ b.stay (m - 1) (a.named m i e)
    | inr i ↦ b.named m i e
  ];
  only = λ k h. elim (b.only k h) [
    | inl i ↦ elim (a.only k i) [
      | inl j ↦ inl j
      | inr j ↦ inr (j.0, Contains-append_left ns (n ∷ []) (suc k) j.1)
    ]
    | inr i ↦ inr (i.0, Contains-append_right ns (n ∷ []) (suc k) i.1)
  ];
}

module _ (lines : List Line) (at : ℕ) where
  -- If the line at this place is not marked, nothing is needed for it.
  pub needed_unmarked : (marks : List _) → AreNeeded lines marks (at + 1) → (IsMarked marks at → ⊥) → AreNeeded lines marks at
  needed_unmarked marks h off = record {
    count = h.count;
    last = h.last;
    closed = λ k n l above m e c early. elim (eq-or-lt_of_le {n = at} {m = k} above) [
      | inl i ↦ absurd (off (subst (IsMarked marks) (sym i) m))
      | inr i ↦ h.closed k n l (omega (arith, i)) m e c early
    ];
    used = h.used;
  }

  -- If the line at this place is marked, its premises get marked.
  pub needed_marked : (line : Line) (old new : List _) → slice_get lines at ≡ Some line → AreNeeded lines old (at + 1) → IsMarked old at
      → AreMarked old new line.premises at → AreNeeded lines new at
  needed_marked line old new is h on a = record {
    count = a.count ∙ h.count;
    last = λ k e. a.stay k (h.last k e);
    closed = λ k n l above m e c early. elim (eq-or-lt_of_le {n = at} {m = k} above) [
      | inl i ↦ (let same : line ≡ l = cc in
          a.named n (subst (λ (z : Line). Contains z.premises n) (sym same) c) (subst (λ z. IsEarlier z n) (sym i) early))
      | inr i ↦ a.stay (n - 1) (h.closed k n l (omega (arith, i)) (before k i (a.only k m)) e c early)
    ];
    used = λ k w m. elim (a.only k m) [
      | inl i ↦ (let (j, l, after, e, on_too, c) = h.used k w i in (j, l, after, e, a.stay j on_too, c))
      | inr i ↦ (at, line, i.0, is, a.stay at on, i.1)
    ];
  }
    where
      before : (k : ℕ) → at < k → IsMarked old k ⊎ ((k < at) × Contains line.premises (suc k)) → IsMarked old k
      before k i (inl m) = m
      before k i (inr w) = absurd (let e = w.0 in omega (arith, i, e))
