-- What was read of the lines under a heading.
use Rattle.std.proofs.Common.{◌≡◌, ◌∙◌, refl, sym, ap, ap₂, subst, ℕ, zero, suc, ◌+◌, ◌-◌, ◌^◌, ◌<◌, ◌≤◌, arith, List, [], ◌∷◌, ◌++◌, length, append_assoc}
use Rattle.std.specs.Prelude.{Some, slice_get}
use Rattle.std.specs.List.{AllByRecursion}
use Rattle.std.proofs.lemmas.Option.{slice_get_within}
use Rattle.swreq_world.specs.swreq_derive.Instances.{HasNumber, TermLine}
use Rattle.swreq_world.specs.swreq_lexicon.Views.{LexiconView}
use Rattle.swreq_lines.specs.GoodLines.{AreTextsOf, IsFirstNotGood, IsGood, IsReadableLine}
use Rattle.swreq_lines.specs.LineTexts.{line_text, texts_from}
use Rattle.swreq_text.specs.Lines.{lines}
use Rattle.swreq_text.proofs.Lined.{few_lines}
use Rattle.swreq_lines.specs.swreq_print.Names.{Text}
use Rattle.swreq_verify.specs.Laying.{AreHeaded, IsBadUnder, IsFront, IsUnder}
use Rattle.swreq_verify.specs.SecondParts.{IsHeading}

pub at_place : {A : Type 0} (P : A → Type 0) (xs : List A) (k : ℕ) (y : A) → AllByRecursion P xs → slice_get xs k ≡ Some y → P y
at_place P [] k y h e = absurd cc
at_place P (x ∷ xs) zero y h e = let same : x ≡ y = cc in subst P same h.0
at_place P (x ∷ xs) (suc k) y h e = at_place P xs k y h.1 e

module _ (x : LexiconView) where
  -- ---- lines that are good

  pub texts_are : (n : ℕ) (ls : List Text) (ds : List TermLine) → AreTextsOf x n ls ds
      → (ls ≡ texts_from x n ds) × AllByRecursion (IsReadableLine x) ds
  texts_are n [] [] h = (refl, tt)
  texts_are n [] (d ∷ ds) h = absurd h
  texts_are n (l ∷ ls) [] h = absurd h
  texts_are n (l ∷ ls) (d ∷ ds) h =
      let more = texts_are (suc n) ls ds h.1 in
      (ap₂ (λ (a : Text) (b : List Text). a ∷ b) h.0.is more.0, (h.0.readable, more.1))

  pub front_read : (text under rest heading : Text) (ds : List TermLine) → lines text ≡ lines under ++ lines rest → AreHeaded (lines rest)
      → AreTextsOf x 1 (lines under) ds
      → IsFront x (heading ∷ lines text) (record { heading = heading; derivation = ds }) (lines rest)
  front_read text under rest heading ds split headed h =
      let same = (texts_are 1 (lines under) ds h).0 in
      record { lines_are = ap (λ z. heading ∷ z) (split ∙ ap (λ z. z ++ lines rest) same); headed = headed }

  -- ---- the first line that is not

  -- the good lines before it
  goods : (m start : ℕ) (ls : List Text) (bytes : Text) → slice_get ls m ≡ Some bytes
      → ((k : ℕ) (good : Text) → k < m → slice_get ls k ≡ Some good → IsGood x (k + start) good)
      → (ds : List TermLine) × (rest : List Text) × (ls ≡ texts_from x start ds ++ (bytes ∷ rest)) × AllByRecursion (IsReadableLine x) ds
      × (length ds ≡ m)
  goods m start [] bytes e h = absurd cc
  goods zero start (l ∷ ls) bytes e h = let same : l ≡ bytes = cc in ([], ls, ap (λ z. z ∷ ls) same, tt, refl)
  goods (suc m) start (l ∷ ls) bytes e h =
      let first = h 0 l (omega arith) refl in
      let number : 0 + start ≡ start = omega arith in
      let same : l ≡ line_text x start first.line = first.is ∙ ap (λ (n : ℕ). line_text x n first.line) number in
      let more = goods m (suc start) ls bytes e
      (λ k good lt g. (let next : suc k + start ≡ k + suc start = omega arith in
      subst (λ (n : ℕ). IsGood x n good) next (h (suc k) good (omega arith) g))) in
      (first.line ∷ more.0, more.1, ap₂ (λ (a : Text) (b : List Text). a ∷ b) same more.2, (first.readable, more.3), ap suc more.4)

  bad_in : (heading : Text) (ls rest : List Text) (n : ℕ) (bytes : Text) → IsHeading heading → AllByRecursion IsUnder ls → n < 2 ^ 32
      → HasNumber n ls bytes → (IsGood x n bytes → ⊥)
      → ((k : ℕ) (good : Text) → k + 1 < n → slice_get ls k ≡ Some good → IsGood x (k + 1) good) → IsBadUnder x (heading ∷ (ls ++ rest)) n
  bad_in heading ls rest n bytes is_heading under short number bad before =
      let found = goods (n - 1) 1 ls bytes number.1 (λ k good l e. before k good (omega (arith, number.0)) e) in
      let some = number.0 in
      let long = found.4 in
      let here : length found.0 + 1 ≡ n = omega arith in
      record {
        heading = heading;
        derivation = found.0;
        line = bytes;
        rest = found.1 ++ rest;
        lines_are = ap (λ z. heading ∷ z) (ap (λ z. z ++ rest) found.2 ∙ append_assoc (texts_from x 1 found.0) (bytes ∷ found.1) rest);
        number = sym here;
        is_heading = is_heading;
        readable = found.3;
        under = at_place IsUnder ls (n - 1) bytes under number.1;
        bad = λ l readable e.
            bad (record { line = l; readable = readable; number = short; is = e ∙ ap (λ (k : ℕ). line_text x k l) here });
      }

  pub bad_read : (text under rest heading : Text) (n : ℕ) → lines text ≡ lines under ++ lines rest → IsHeading heading
      → AllByRecursion IsUnder (lines under)
      → length under ≤ 1048576 → IsFirstNotGood x under n → IsBadUnder x (heading ∷ lines text) n
  bad_read text under rest heading n split is_heading all short first =
      let number = first.number in
      let within = slice_get_within (lines under) (n - 1) first.bytes number.1 in
      let few = few_lines under in
      subst (λ z. IsBadUnder x (heading ∷ z) n) (sym split)
      (bad_in heading (lines under) (lines rest) n first.bytes is_heading all (bound number.0 within few) number first.bad first.before)
    where
      bound : 0 < n → n - 1 < length (lines under) → length (lines under) ≤ length under → n < 2 ^ 32
      bound some within few = omega arith

  -- its number is at most the length of the text
  pub bad_number : (under : Text) (n : ℕ) → IsFirstNotGood x under n → n ≤ length under
  bad_number under n first =
      let number = first.number in
      let within = slice_get_within (lines under) (n - 1) first.bytes number.1 in
      let few = few_lines under in
      let some = number.0 in
      omega arith
