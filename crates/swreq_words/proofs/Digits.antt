-- What `parse` makes of digits.
use Rattle.std.proofs.Common.{◌≡◌, ◌&&◌, ◌≤◌, ℕ, true, List, length, nat_le, rules, Result, Ok, arith}
use Rattle.std.specs.Char.{is_ascii_digit}
use Rattle.std.specs.List.{list_all}
use Rattle.std.specs.Str.Parse.{digits_value, ParsesUnsigned}
use Rattle.std.proofs.lemmas.Str.Parse.{IsNumeralModel, numerals_by_value, parse_gives, digits_value_short}
use Rattle.std.proofs.lemmas.Bool.{and_parts}
use Rattle.swreq_words.specs.Numbers.{are_few_digits}

own : IsNumeralModel (λ text. list_all is_ascii_digit text ≡ true) (digits_value 10)
own = numerals_by_value _ (search rules)

pub few : (text : List ℕ) → are_few_digits text ≡ true → (1 ≤ length text) × (length text ≤ 6) × (list_all is_ascii_digit text ≡ true)
few text e =
    let all = and_parts (nat_le 1 (length text) && nat_le (length text) 6) (list_all is_ascii_digit text) e in
    let bounds = and_parts (nat_le 1 (length text)) (nat_le (length text) 6) all.0 in
    (search (arith, bounds.0), search (arith, bounds.1), all.1)

pub parsed : {E : Type 0} → (text : List ℕ) (r : Result ℕ E) → ParsesUnsigned 32 10 text r → are_few_digits text ≡ true
    → r ≡ Ok (digits_value 10 text)
parsed text r parses e =
    let are = few text e in
    parse_gives own 32 text r parses are.2 (omega arith) (omega (arith, digits_value_short own text 6 are.2 are.1))
