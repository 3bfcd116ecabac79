-- The texts of lines, one after the other.
use Rattle.std.proofs.Common.{◌≡◌, ◌∙◌, sym, ap, ℕ, suc, ◌+◌, ◌<◌, ◌≤◌, arith, List, ◌∷◌, ◌++◌, length, map, drop, get_or, append_assoc, codes}
use Rattle.std.proofs.lemmas.List.{append-nil, drop_all, drop_more}
use Rattle.swreq_print.specs.swreq_derive.declared.lines.Line.{Line}
use Rattle.swreq_print.specs.swreq_derive.Lines.{line_of}
use Rattle.swreq_print.specs.swreq_lexicon.Views.{LexiconView}
use Rattle.swreq_print.specs.swreq_param.Terms.{Term}
use Rattle.swreq_print.specs.Names.{Text}
use Rattle.swreq_lines.specs.LineTexts.{line_text, lines_from}

module _ (x : LexiconView) (terms : List Term) (lines : List Line) where
  -- the lines from the place on
  abbrev pub rest_of : ℕ → Text
  rest_of k = lines_from x (k + 1) (map (line_of terms) (drop k lines))

  pub one_line : (k : ℕ) (line : Line) (old mid new whole : Text) → k < length lines → line ≡ get_or lines k line
      → mid ≡ old ++ line_text x (k + 1) (line_of terms line) → new ≡ mid ++ codes "\n" → old ++ rest_of k ≡ whole
      → new ++ rest_of (k + 1) ≡ whole
  one_line k line old mid new whole l e m n h =
      let two : suc (k + 1) ≡ k + 1 + 1 = omega arith in
      let rest = map (line_of terms) (drop (k + 1) lines) in
      ap (λ z. z ++ rest_of (k + 1)) n
      ∙ append_assoc mid (codes "\n") (rest_of (k + 1))
      ∙ ap (λ z. z ++ (codes "\n" ++ rest_of (k + 1))) m
      ∙ append_assoc old (line_text x (k + 1) (line_of terms line)) (codes "\n" ++ rest_of (k + 1))
      ∙ ap (λ (i : ℕ). old ++ (line_text x (k + 1) (line_of terms line) ++ (codes "\n" ++ lines_from x i rest))) (sym two)
      ∙ ap (λ (z : Line). old ++ lines_from x (k + 1) (line_of terms z ∷ rest)) e
      ∙ ap (λ z. old ++ lines_from x (k + 1) (map (line_of terms) z)) (sym (drop_more lines k line l))
      ∙ h

  pub all_lines : (k : ℕ) (all whole : Text) → length lines ≤ k → all ++ rest_of k ≡ whole → all ≡ whole
  all_lines k all whole l h =
      sym (append-nil all) ∙ ap (λ z. all ++ lines_from x (k + 1) (map (line_of terms) z)) (sym (drop_all k lines l)) ∙ h
