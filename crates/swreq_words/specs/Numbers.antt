-- The numbers of the words.
use Rattle.std.specs.Prelude.{ℕ, ◌≤◌, Bool, List, ◌&&◌, if◌then◌else◌, length, nat_le}
use Rattle.std.specs.Char.{is_ascii_digit}
use Rattle.std.specs.List.{list_all}
use Rattle.std.specs.Str.Parse.{digits_value}

-- 1 to 6 digits from 0 to 9, without a sign
abbrev pub are_few_digits : List ℕ → Bool
are_few_digits text = nat_le 1 (length text) && nat_le (length text) 6 && list_all is_ascii_digit text

-- their number, and 0 of any other text
abbrev pub number_of : List ℕ → ℕ
number_of text = if are_few_digits text then digits_value 10 text else 0

-- 1 to 6 digits, whose number is at least 1 and at most the greatest
abbrev pub is_number : ℕ → List ℕ → Bool
is_number greatest text = nat_le 1 (number_of text) && nat_le (number_of text) greatest

-- a completion may be limited to this many rules, with this many symbols on the left
abbrev pub AreLimits : (rules symbols : ℕ) → Type 0
AreLimits rules symbols = (1 ≤ rules) × (rules ≤ 100000) × (1 ≤ symbols) × (symbols ≤ 255)
