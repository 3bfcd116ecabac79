-- Lines that are read so far.
use Rattle.std.proofs.Common.{◌≡◌, ◌∙◌, refl, sym, ap, subst, ℕ, zero, suc, ◌+◌, ◌-◌, ◌<◌, ◌≤◌, ◌^◌, arith, List, [], ◌∷◌, ◌++◌, length, map, Some, slice_get, append_assoc}
use Rattle.std.proofs.lemmas.List.{append-nil, map-append}
use Rattle.swreq_print.specs.swreq_derive.declared.lines.Line.{Line}
use Rattle.swreq_print.specs.swreq_derive.Instances.{TermLine}
use Rattle.swreq_print.specs.swreq_derive.Lines.{line_of}
use Rattle.swreq_print.specs.swreq_lexicon.Views.{LexiconView}
use Rattle.swreq_print.specs.swreq_param.Terms.{Term}
use Rattle.swreq_text.specs.Lines.{lines}
use Rattle.swreq_print.specs.Names.{Text}
use Rattle.swreq_lines.specs.declared.lines.LinesErr.{LinesErr}
use Rattle.swreq_lines.specs.declared.lines.LinesErr.TheVariants.{Memory, Syntax}
use Rattle.swreq_lines.specs.GoodLines.{AreLinesOf, AreTextsOf, IsFirstNotGood, IsGood, IsRefused, IsTextOf}
use Rattle.swreq_lines.specs.Written.{IsRefusedAt}

module _ (x : LexiconView) where
  -- ---- texts of lines

  one_more : (n : ℕ) (done : List Text) (ls : List TermLine) (bytes : Text) (l : TermLine) → AreTextsOf x n done ls
      → IsTextOf x (length ls + n) bytes l
      → AreTextsOf x n (done ++ bytes ∷ []) (ls ++ l ∷ [])
  one_more n [] [] bytes l h is = (let e : 0 + n ≡ n = omega arith in subst (λ m. IsTextOf x m bytes l) e is, tt)
  one_more n [] (k ∷ ls) bytes l h is = absurd h
  one_more n (b ∷ done) [] bytes l h is = absurd h
  one_more n (b ∷ done) (k ∷ ls) bytes l h is =
      let e : suc (length ls) + n ≡ length ls + suc n = omega arith in
      (h.0, one_more (suc n) done ls bytes l h.1 (subst (λ m. IsTextOf x m bytes l) e is))

  as_many : (n : ℕ) (done : List Text) (ls : List TermLine) → AreTextsOf x n done ls → length done ≡ length ls
  as_many n [] [] h = refl
  as_many n [] (k ∷ ls) h = absurd h
  as_many n (b ∷ done) [] h = absurd h
  as_many n (b ∷ done) (k ∷ ls) h = ap suc (as_many (suc n) done ls h.1)

  -- Each of them is good.
  each_good : (n : ℕ) (done rest : List Text) (ls : List TermLine) → AreTextsOf x n done ls → n + length done ≤ 2 ^ 32
      → (k : ℕ) (bytes : Text) → k < length done
      → slice_get (done ++ rest) k ≡ Some bytes → IsGood x (k + n) bytes
  each_good n [] rest ls h small k bytes l e = absurd (omega (arith, l))
  each_good n (b ∷ done) rest [] h small k bytes l e = absurd h
  each_good n (b ∷ done) rest (q ∷ ls) h small zero bytes l e =
      let same : b ≡ bytes = cc in
      let place : n ≡ 0 + n = omega arith in
      subst (λ m. IsGood x m bytes) place
      (record { line = q; readable = h.0.readable; number = omega (arith, small); is = sym same ∙ h.0.is })
  each_good n (b ∷ done) rest (q ∷ ls) h small (suc k) bytes l e =
      let place : k + suc n ≡ suc k + n = omega arith in
      subst (λ m. IsGood x m bytes) place (each_good (suc n) done rest ls h.1 (omega (arith, small)) k bytes (omega (arith, l)) e)

  at_seam : (done rest : List Text) (bytes : Text) → slice_get (done ++ bytes ∷ rest) (length done) ≡ Some bytes
  at_seam [] rest bytes = refl
  at_seam (b ∷ done) rest bytes = at_seam done rest bytes

  -- ---- lines over a table

  -- What stands before the rest are the texts of these lines.
  pub record AreSoFar (terms : List Term) (text rest : Text) (ls : List Line) : Type 0 where
    pub done : List Text
    pub texts : AreTextsOf x 1 done (map (line_of terms) ls)
    pub split : lines text ≡ done ++ lines rest

  pub at_start : (terms : List Term) (text : Text) (ls : List Line) → ls ≡ [] → AreSoFar terms text text ls
  at_start terms text [] e = record { done = []; texts = tt; split = refl }
  at_start terms text (l ∷ ls) e = absurd cc

  length_map : (terms : List Term) (ls : List Line) → length (map (line_of terms) ls) ≡ length ls
  length_map terms [] = refl
  length_map terms (l ∷ ls) = ap suc (length_map terms ls)

  -- The count of the texts is that of the lines.
  count : (terms : List Term) (text rest : Text) (ls : List Line) → (s : AreSoFar terms text rest ls) → length s.done ≡ length ls
  count terms text rest ls s = as_many 1 s.done (map (line_of terms) ls) s.texts ∙ length_map terms ls

  pub with_line : (old new : List Term) (text rest piece after : Text) (ls more : List Line) (l : Line) (n : ℕ) → AreSoFar old text rest ls
      → map (line_of new) ls ≡ map (line_of old) ls → lines rest ≡ piece ∷ lines after → n ≡ length ls + 1
      → IsTextOf x n piece (line_of new l)
      → more ≡ ls ++ l ∷ [] → AreSoFar new text after more
  with_line old new text rest piece after ls more l n s still next number is e = record {
    done = s.done ++ piece ∷ [];
    texts = (let place : n ≡ length (map (line_of new) ls) + 1 = number ∙ ap (λ (k : ℕ). k + 1) (sym (length_map new ls)) in
        subst (AreTextsOf x 1 (s.done ++ piece ∷ [])) (sym (map-append (line_of new) ls (l ∷ [])) ∙ ap (map (line_of new)) (sym e))
        (one_more 1 s.done (map (line_of new) ls) piece (line_of new l) (subst (AreTextsOf x 1 s.done) (sym still) s.texts)
        (subst (λ m. IsTextOf x m piece (line_of new l)) place is)));
    split = s.split ∙ ap (λ z. s.done ++ z) next ∙ sym (append_assoc s.done (piece ∷ []) (lines after));
  }

  pub at_end : (terms : List Term) (text rest : Text) (ls : List Line) → AreSoFar terms text rest ls → rest ≡ []
      → AreLinesOf x terms text ls
  at_end terms text rest ls s none =
      let all : s.done ≡ lines text = sym (append-nil s.done) ∙ ap (λ z. s.done ++ lines z) (sym none) ∙ sym s.split in
      subst (λ z. AreTextsOf x 1 z (map (line_of terms) ls)) all s.texts

  -- The next line is the first that is not good.
  pub first_not_good : (terms : List Term) (text rest piece after : Text) (ls : List Line) (n : ℕ)
      → AreSoFar terms text rest ls → n < 2 ^ 32
      → lines rest ≡ piece ∷ lines after → n ≡ length ls + 1 → (IsGood x n piece → ⊥) → IsFirstNotGood x text n
  first_not_good terms text rest piece after ls n s small next number bad =
      let c = count terms text rest ls s in
      let place : n - 1 ≡ length s.done = omega (arith, c, number) in
      let all : lines text ≡ s.done ++ (piece ∷ lines after) = s.split ∙ ap (λ z. s.done ++ z) next in
      record {
        bytes = piece;
        number = (
          omega (arith, number),
          ap (λ (k : ℕ). slice_get (lines text) k) place ∙ ap (λ z. slice_get z (length s.done)) all ∙ at_seam s.done (lines after) piece,
        );
        bad = bad;
        before =
            λ k good l e. each_good 1 s.done (piece ∷ lines after) (map (line_of terms) ls) s.texts (omega (arith, c, number, small)) k good
            (omega (arith, c, number, l)) (ap (λ z. slice_get z k) (sym all) ∙ e);
      }

  -- a refusal of that line is one of the text
  pub refused_at : (terms : List Term) (text rest piece after : Text) (ls : List Line) (n : ℕ) (e : LinesErr)
      → AreSoFar terms text rest ls → n < 2 ^ 32
      → lines rest ≡ piece ∷ lines after → n ≡ length ls + 1 → IsRefusedAt x n piece e → IsRefused x text e
  refused_at terms text rest piece after ls n (Syntax m) s small next number h =
      subst (IsFirstNotGood x text) (sym h.0) (first_not_good terms text rest piece after ls n s small next number h.1)
  refused_at terms text rest piece after ls n Memory s small next number h = tt
