-- Numbers with a comma and a space between each two, as they are read.
use Rattle.std.proofs.Common.{◌≡◌, ◌∙◌, ◌++◌, ◌∷◌, [], refl, sym, ℕ, List, codes, map}
use Rattle.std.specs.Fmt.{decimal}
use Rattle.std.specs.List.{AllByRecursion}
use Rattle.swreq_text.specs.Joined.{followed, joined}
use Rattle.swreq_print.specs.Names.{Text}
use Rattle.swreq_lines.specs.GoodLines.{IsShort}
use Rattle.swreq_lines.specs.LineTexts.{premises_text}
use Rattle.swreq_lines.specs.Pieces.{Ends, IsWithout, behind}
use Rattle.swreq_lines.proofs.Digits.{number_without, some_digit}

abbrev pub numbers_text : List ℕ → Text
numbers_text ns = joined (codes ", ") (map decimal ns)

-- a clause on the first word of a text
abbrev pub ReadsTo : ℕ → Text → Text → Text → Type 0
ReadsTo byte text piece rest = (w tail : Text) → IsWithout byte w → Ends byte tail → text ≡ w ++ tail → (piece ≡ w) × (rest ≡ behind tail)

-- after the word `from`
pub first_rest : (ns : List ℕ) (text word rest : Text) → ReadsTo 32 text word rest → text ≡ behind (premises_text ns)
    → rest ≡ numbers_text ns
first_rest [] text word rest reads e = (reads [] [] refl tt e).1
first_rest (n ∷ ns) text word rest reads e = (reads (codes "from") (32 ∷ numbers_text (n ∷ ns)) refl refl e).1

-- after a comma
pub next_rest : (ns : List ℕ) (text word rest : Text) → ReadsTo 32 text word rest → text ≡ behind (followed (codes ", ") (map decimal ns))
    → rest ≡ numbers_text ns
next_rest [] text word rest reads e = (reads [] [] refl tt e).1
next_rest (n ∷ ns) text word rest reads e = (reads [] (32 ∷ numbers_text (n ∷ ns)) refl refl e).1

ends : (ns : List ℕ) → Ends 44 (followed (codes ", ") (map decimal ns))
ends [] = tt
ends (n ∷ ns) = refl

-- The numbers that are left begin with one that is short.
pub record IsNext (ns : List ℕ) (piece rest : Text) : Type 0 where
  pub first : ℕ
  pub others : List ℕ
  pub are : ns ≡ first ∷ others
  pub short : IsShort first
  pub others_short : AllByRecursion IsShort others
  pub piece_is : piece ≡ decimal first
  pub rest_is : rest ≡ behind (followed (codes ", ") (map decimal others))

pub next_number : (ns : List ℕ) (text piece rest : Text) → AllByRecursion IsShort ns → (text ≡ [] → ⊥) → text ≡ numbers_text ns
    → ReadsTo 44 text piece rest → IsNext ns piece rest
next_number [] text piece rest h some e reads = absurd (some e)
next_number (n ∷ ns) text piece rest h some e reads =
    let r = reads (decimal n) (followed (codes ", ") (map decimal ns)) (number_without 44 refl n h.0) (ends ns) e in
    record { first = n; others = ns; are = refl; short = h.0; others_short = h.1; piece_is = r.0; rest_is = r.1 }

-- At the end no number is left.
pub no_number : (ns : List ℕ) (text : Text) → AllByRecursion IsShort ns → text ≡ [] → text ≡ numbers_text ns → ns ≡ []
no_number [] text h none e = refl
no_number (n ∷ ns) text h none e =
    absurd (some_digit n h.0 (followed (codes ", ") (map decimal ns)) (sym e ∙ none))
