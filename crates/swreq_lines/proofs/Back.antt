-- What is written of lines is read as those lines.
use Rattle.std.proofs.Common.{◌≡◌, ◌∙◌, refl, sym, ap, ap₂, subst, ℕ, zero, suc, ◌+◌, ◌-◌, ◌≤◌, ◌^◌, arith, List, [], ◌∷◌, ◌++◌, length, map, Some, slice_get, codes, length-append}
use Rattle.std.specs.List.{AllByRecursion}
use Rattle.swreq_print.specs.swreq_derive.declared.lines.Line.{Line}
use Rattle.swreq_print.specs.swreq_derive.Instances.{TermLine}
use Rattle.swreq_print.specs.swreq_derive.Lines.{line_of}
use Rattle.swreq_print.specs.swreq_lexicon.Views.{LexiconView}
use Rattle.swreq_print.specs.swreq_param.Terms.{Term}
use Rattle.swreq_text.specs.Lines.{lines}
use Rattle.swreq_text.proofs.Lined.{lines-line}
use Rattle.swreq_print.specs.Names.{Text}
use Rattle.swreq_print.specs.Reading.{TellsApart}
use Rattle.swreq_lines.specs.GoodLines.{AreLinesOf, AreTextsOf, IsFirstNotGood, IsGood, IsReadableLine}
use Rattle.swreq_lines.specs.LineTexts.{line_text, lines_from, lines_text, texts_from}
use Rattle.swreq_lines.specs.Writing.{AreNamesOfOneLine}
use Rattle.swreq_lines.proofs.Cuts.{is_one_line}
use Rattle.swreq_lines.proofs.OneLine.{one_line}

-- There are no more lines than bytes.
pub as_long : (x : LexiconView) (n : ℕ) (ls : List TermLine) → length ls ≤ length (lines_from x n ls)
as_long x n [] = omega arith
as_long x n (l ∷ ls) =
    let more = as_long x (suc n) ls in
    let both = length-append (line_text x n l) (codes "\n" ++ lines_from x (suc n) ls) in
    omega (arith, more, both)

module _ (x : LexiconView) (tells : TellsApart x) (names : AreNamesOfOneLine x) where
  -- The lines of what is written are the texts of the lines.
  pub lines_are : (n : ℕ) (ls : List TermLine) → AllByRecursion (IsReadableLine x) ls → n + length ls ≤ 2 ^ 32
      → lines (lines_from x n ls) ≡ texts_from x n ls
  lines_are n [] h small = refl
  lines_are n (l ∷ ls) h small =
      lines-line (line_text x n l) (lines_from x (suc n) ls)
      (is_one_line (line_text x n l) (one_line x tells names n l (omega (arith, small)) h.0))
      ∙ ap (λ z. line_text x n l ∷ z) (lines_are (suc n) ls h.1 (omega (arith, small)))

  same_lines : (n : ℕ) (ls ks : List TermLine) → AllByRecursion (IsReadableLine x) ls → AreTextsOf x n (texts_from x n ls) ks → ks ≡ ls
  same_lines n [] [] h r = refl
  same_lines n [] (k ∷ ks) h r = absurd r
  same_lines n (l ∷ ls) [] h r = absurd r
  same_lines n (l ∷ ls) (k ∷ ks) h r = ap₂ (λ a b. a ∷ b) (sym (r.0.only l h.0 refl)) (same_lines (suc n) ls ks h.1 r.1)

  each_good : (n : ℕ) (ls : List TermLine) → AllByRecursion (IsReadableLine x) ls → n + length ls ≤ 2 ^ 32 → (k : ℕ) (bytes : Text)
      → slice_get (texts_from x n ls) k ≡ Some bytes → IsGood x (k + n) bytes
  each_good n [] h small k bytes e = absurd cc
  each_good n (l ∷ ls) h small zero bytes e =
      let same : line_text x n l ≡ bytes = cc in
      let place : n ≡ 0 + n = omega arith in
      subst (λ m. IsGood x m bytes) place (record { line = l; readable = h.0; number = omega (arith, small); is = sym same })
  each_good n (l ∷ ls) h small (suc k) bytes e =
      let place : k + suc n ≡ suc k + n = omega arith in
      subst (λ m. IsGood x m bytes) place (each_good (suc n) ls h.1 (omega (arith, small)) k bytes e)

  module _ (written : List TermLine) (h : AllByRecursion (IsReadableLine x) written) (short : length (lines_text x written) ≤ 1048576) where
    small : 1 + length written ≤ 2 ^ 32
    small = let more = as_long x 1 written in omega (arith, more, short)

    pub none_is_bad : (n : ℕ) → IsFirstNotGood x (lines_text x written) n → ⊥
    none_is_bad n f =
        let some = f.number.0 in
        let place : n - 1 + 1 ≡ n = omega (arith, some) in
        f.bad (subst (λ m. IsGood x m f.bytes) place
        (each_good 1 written h small (n - 1) f.bytes (ap (λ z. slice_get z (n - 1)) (sym (lines_are 1 written h small)) ∙ f.number.1)))

    pub read_back : (terms : List Term) (read : List Line) → AreLinesOf x terms (lines_text x written) read
        → map (line_of terms) read ≡ written
    read_back terms read r =
        same_lines 1 written (map (line_of terms) read) h
        (subst (λ z. AreTextsOf x 1 z (map (line_of terms) read)) (lines_are 1 written h small) r)
