-- Places of a text at which a line ends, and the place at which the next one does.
use Rattle.std.proofs.Common.{◌≡◌, ◌∙◌, refl, sym, ap, ℕ, zero, suc, ◌-◌, ◌<◌, ◌≤◌, arith, List, [], ◌∷◌, ◌++◌, inl, inr, length, take, drop, length-append, length-drop, append_assoc}
use Rattle.std.proofs.Math.Nat.{add-sub_cancel}
use Rattle.std.proofs.Math.Seq.{take-length, take-append_seam}
use Rattle.std.proofs.lemmas.List.{append-nil, nil_from_length, take-append-drop, take_all}
use Rattle.swreq_text.specs.Lines.{line_feed, lines, HasWholeLines, IsFirstLine}
use Rattle.swreq_text.proofs.Lined.{lines-append, lines-last, lines-line}

-- The lines before the place are whole, unless they are all.
pub record IsLineEnd (text : List ℕ) (at : ℕ) : Type 0 where
  pub within : at ≤ length text
  pub whole : at < length text → HasWholeLines (take at text)

pub line_end_zero : (text : List ℕ) → IsLineEnd text 0
line_end_zero text = record { within = omega arith; whole = λ l. inl refl }

pub not_at_end : (text : List ℕ) (at : ℕ) → (drop at text ≡ [] → ⊥) → at < length text
not_at_end text at some = by (length (drop at text)) refl
  where
    by : (n : ℕ) → length (drop at text) ≡ n → at < length text
    by zero e = absurd (some (nil_from_length (drop at text) e))
    by (suc n) e = let l = length-drop at text in omega arith

pub all_before : (text : List ℕ) (at : ℕ) → drop at text ≡ [] → take at text ≡ text
all_before text at e = take_all at text (let d = length-drop at text in let l = ap length e in omega arith)

-- the lines before the place, and those after it
pub lines-split : (text : List ℕ) (at : ℕ) → IsLineEnd text at → lines text ≡ lines (take at text) ++ lines (drop at text)
lines-split text at h = by (drop at text) refl
  where
    by : (rest : List ℕ) → drop at text ≡ rest → lines text ≡ lines (take at text) ++ lines rest
    by [] e = ap lines (sym (all_before text at e)) ∙ sym (append-nil (lines (take at text)))
    by (c ∷ rest) e =
        let some = λ (n : drop at text ≡ []). (let f : c ∷ rest ≡ [] = sym e ∙ n in absurd cc) in
        ap lines (sym (take-append-drop at text) ∙ ap (λ z. take at text ++ z) e)
        ∙ lines-append (take at text) (c ∷ rest) (h.whole (not_at_end text at some))

taken : (text front rest : List ℕ) → text ≡ front ++ rest → take (length text - length rest) text ≡ front
taken text front rest e =
    let n : length text - length rest ≡ length front = ap (λ z. length z - length rest) e
    ∙ ap (λ m. m - length rest) (length-append front rest) ∙ add-sub_cancel (length front) (length rest) in
    ap (λ m. take m text) n ∙ ap (take (length front)) e ∙ take-append_seam front rest

-- after the first line of what stands after the place
module _ (text : List ℕ) (at : ℕ) (line rest : List ℕ) (ends : IsLineEnd text at) (first : IsFirstLine (drop at text) line rest) where
  abbrev before : List ℕ
  before = take at text

  within_text : at < length text
  within_text = not_at_end text at first.0

  pub line_end_next : IsLineEnd text (length text - length rest)
      × (lines (take (length text - length rest) text) ≡ lines before ++ (line ∷ []))
  line_end_next =
      elim first.1.1 [
        | inl e ↦ (
            let front = before ++ (line ++ (line_feed ∷ [])) in
            let parts : text ≡ front ++ rest =
            sym (take-append-drop at text) ∙ ap (λ z. before ++ z) (e ∙ sym (append_assoc line (line_feed ∷ []) rest))
            ∙ sym (append_assoc before (line ++ (line_feed ∷ [])) rest) in
            let front_is = taken text front rest parts in (
              record {
                within = omega arith;
                whole = λ l. inr (
                  before ++ line,
                  front_is
                      ∙ sym (append_assoc before line (line_feed ∷ [])),
                );
              },
              ap lines front_is ∙ lines-append before (line ++ (line_feed ∷ [])) (ends.whole within_text)
                  ∙ ap (λ z. lines before ++ z) (lines-line line [] first.1.0),
            ))
        | inr w ↦ (
            let all : length text - length rest ≡ length text = (let none = ap length w.1 in omega arith) in
            let whole_is : take (length text - length rest) text ≡ text = ap (λ n. take n text) all ∙ take-length text in
            let parts : text ≡ before ++ line = sym (take-append-drop at text) ∙ ap (λ z. before ++ z) w.0 in (
              record { within = omega arith; whole = λ l. absurd (omega (arith, all)) },
              ap lines (whole_is ∙ parts) ∙ lines-append before line (ends.whole within_text)
                  ∙ ap (λ z. lines before ++ z) (lines-last line first.1.0 (λ n. first.0 (w.0 ∙ n))),
            ))
      ]
