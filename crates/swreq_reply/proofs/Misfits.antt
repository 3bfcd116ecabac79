-- A second part first does not fit the queries at one line.
use Rattle.std.proofs.Common.{◌≡◌, ◌∙◌, inl, inr, refl, sym, ap₂, subst, ℕ, ◌<◌, arith, List, [], ◌∷◌, ◌++◌, append-nil, append_assoc, length}
use Rattle.std.proofs.lemmas.Bool.{cases_lt}
use Rattle.swreq_print.specs.swreq_lexicon.Views.{LexiconView}
use Rattle.swreq_print.specs.Names.{Text}
use Rattle.swreq_verify.specs.SecondParts.{AreSections, Begin, IsFirstMisfit, IsStuck, TermSection}

module _ (x : LexiconView) (count : ℕ) where
  -- a front of lines that begin sections begins them too
  shorter : (before after : List Text) → Begin x count (before ++ after) → Begin x count before
  shorter before after (more, ss, are) =
      (after ++ more, ss, subst (λ (ls : List Text). AreSections x count ls ss) (append_assoc before after more) are)

  -- a place before another one in the same lines
  front : (a b c d : List Text) → a ++ b ≡ c ++ d → length a < length c
      → (line : Text) × (rest : List Text) × (b ≡ line ∷ rest) × (after : List Text)
      × (c ≡ (a ++ line ∷ []) ++ after)
  front [] b [] d e l = absurd (omega (arith, l))
  front [] b (z ∷ c) d e l = (z, c ++ d, e, c, refl)
  front (y ∷ a) b [] d e l = absurd (omega (arith, l))
  front (y ∷ a) b (z ∷ c) d e l =
      let same : (y ≡ z) × (a ++ b ≡ c ++ d) = ((cc), (cc)) in
      let (line, rest, is, after, longer) = front a b c d same.1 (omega (arith, l)) in
      (line, rest, is, after, ap₂ ◌∷◌ (sym same.0) longer)

  module _ (ls : List Text) where
    -- what is stuck with this many lines before it does not begin with more
    earlier : (n k : ℕ) (p : IsFirstMisfit x count ls n) (q : IsFirstMisfit x count ls k) → length p.before < length q.before → ⊥
    earlier n k p q l =
        let (line, rest, is, after, longer) = front p.before p.rest q.before q.rest (sym p.split ∙ q.split) l in
        subst (IsStuck x count p.before) is p.stuck (shorter (p.before ++ line ∷ []) after (subst (Begin x count) longer q.fits))

    -- the first line that does not fit is one
    pub one_misfit : (n k : ℕ) → IsFirstMisfit x count ls n → IsFirstMisfit x count ls k → n ≡ k
    one_misfit n k a b = elim (cases_lt (length a.before) (length b.before)) [
      | inl l ↦ absurd (earlier n k a b l)
      | inr l ↦ elim (cases_lt (length b.before) (length a.before)) [
        | inl m ↦ absurd (earlier k n b a m)
        | inr m ↦ omega (arith, l, m, a.number, b.number)
      ]
    ]

    -- where one does not fit there are no sections
    pub no_sections : (n : ℕ) → IsFirstMisfit x count ls n → ((ss : List TermSection) × AreSections x count ls ss) → ⊥
    no_sections n h (ss, are) = by h.rest h.split h.stuck
      where
        by : (rest : List Text) → ls ≡ h.before ++ rest → IsStuck x count h.before rest → ⊥
        by [] e stuck = stuck ss (subst (λ (z : List Text). AreSections x count z ss) (e ∙ append-nil h.before) are)
        by (line ∷ rest) e stuck =
            stuck (rest, ss, subst (λ (z : List Text). AreSections x count z ss) (e ∙ sym (append_assoc h.before (line ∷ []) rest)) are)
