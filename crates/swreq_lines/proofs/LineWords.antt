-- Lines as they are read: two spaces, the number, the statement, the rule and the premises.
use Rattle.std.proofs.Common.{◌≡◌, ◌∙◌, ◌++◌, ◌∷◌, [], refl, sym, ℕ, List, codes, append_assoc}
use Rattle.std.specs.Fmt.{decimal}
use Rattle.swreq_print.specs.Names.{Text}
use Rattle.swreq_lines.specs.GoodLines.{IsShort}
use Rattle.swreq_lines.specs.LineTexts.{premises_text}
use Rattle.swreq_lines.specs.Pieces.{Ends}
use Rattle.swreq_lines.proofs.Cuts.{without_append}
use Rattle.swreq_lines.proofs.Digits.{number_without}
use Rattle.swreq_lines.proofs.ReadNumbers.{ReadsTo}

-- What follows the number.
pub behind_number : (n : ℕ) (text first behind_first second behind_second number behind_number rest : Text) → IsShort n
    → ReadsTo 32 text first behind_first → ReadsTo 32 behind_first second behind_second → ReadsTo 32 behind_second number behind_number
    → text ≡ codes "  " ++ (decimal n ++ (codes ". " ++ rest)) → behind_number ≡ rest
behind_number n text first behind_first second behind_second number after rest short one two three e =
    let k = one [] (32 ∷ 32 ∷ (decimal n ++ (codes ". " ++ rest))) refl refl e in
    let j = two [] (32 ∷ (decimal n ++ (codes ". " ++ rest))) refl refl k.1 in
    let word = without_append 32 (decimal n) (codes ".") (number_without 32 refl n short) refl in
    (three (decimal n ++ codes ".") (32 ∷ rest) word refl (j.1 ∙ sym (append_assoc (decimal n) (codes ".") (32 ∷ rest)))).1

-- Premises follow a space.
pub premises_end : (ns : List ℕ) → Ends 32 (premises_text ns)
premises_end [] = tt
premises_end (n ∷ ns) = refl
