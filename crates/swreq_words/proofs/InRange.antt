-- The numbers that words say are in their ranges.
use Rattle.std.proofs.Common.{◌≡◌, ◌≤◌, ℕ, true, List, [], ◌∷◌, arith, sym, subst, nat_le}
use Rattle.std.specs.List.{list_all}
use Rattle.std.proofs.lemmas.Bool.{and_parts}
use Rattle.swreq_words.specs.Form.{Part, Says, count_in, greatest, greatest_count, is_in_range, limit_in}
use Rattle.swreq_words.specs.Form.Part.{apart, joined, trace, number}
use Rattle.swreq_words.specs.Numbers.{AreLimits, is_number, number_of}
use Rattle.swreq_words.specs.declared.command.CommandLine.{CommandLine}
use Rattle.swreq_words.specs.declared.limits.Limit.{Limit}
use Rattle.swreq_words.specs.declared.limits.Limit.TheVariants.{MaxRules, MaxLength}

-- The number is at least 1, and at most the greatest.
abbrev IsFrom1 : ℕ → ℕ → Type 0
IsFrom1 most n = (1 ≤ n) × (n ≤ most)

number_within : (most : ℕ) (text : List ℕ) → is_number most text ≡ true → IsFrom1 most (number_of text)
number_within most text h =
    let parts = and_parts (nat_le 1 (number_of text)) (nat_le (number_of text) most) h in
    (search (arith, parts.0), search (arith, parts.1))

-- ---- limits

limit_within : (limit : Limit) (parts : List Part) → list_all is_in_range parts ≡ true → IsFrom1 (greatest limit) (limit_in limit parts)
limit_within MaxRules [] h = (omega arith, omega arith)
limit_within MaxRules (apart MaxRules text ∷ parts) h =
    number_within 100000 text (and_parts (is_number 100000 text) (list_all is_in_range parts) h).0
limit_within MaxRules (joined MaxRules text ∷ parts) h =
    number_within 100000 text (and_parts (is_number 100000 text) (list_all is_in_range parts) h).0
limit_within MaxRules (apart MaxLength text ∷ parts) h =
    limit_within MaxRules parts (and_parts (is_number 255 text) (list_all is_in_range parts) h).1
limit_within MaxRules (joined MaxLength text ∷ parts) h =
    limit_within MaxRules parts (and_parts (is_number 255 text) (list_all is_in_range parts) h).1
limit_within MaxRules (trace ∷ parts) h = limit_within MaxRules parts (and_parts true (list_all is_in_range parts) h).1
limit_within MaxRules (number text ∷ parts) h =
    limit_within MaxRules parts (and_parts (is_number greatest_count text) (list_all is_in_range parts) h).1
limit_within MaxLength [] h = (omega arith, omega arith)
limit_within MaxLength (apart MaxLength text ∷ parts) h =
    number_within 255 text (and_parts (is_number 255 text) (list_all is_in_range parts) h).0
limit_within MaxLength (joined MaxLength text ∷ parts) h =
    number_within 255 text (and_parts (is_number 255 text) (list_all is_in_range parts) h).0
limit_within MaxLength (apart MaxRules text ∷ parts) h =
    limit_within MaxLength parts (and_parts (is_number 100000 text) (list_all is_in_range parts) h).1
limit_within MaxLength (joined MaxRules text ∷ parts) h =
    limit_within MaxLength parts (and_parts (is_number 100000 text) (list_all is_in_range parts) h).1
limit_within MaxLength (trace ∷ parts) h = limit_within MaxLength parts (and_parts true (list_all is_in_range parts) h).1
limit_within MaxLength (number text ∷ parts) h =
    limit_within MaxLength parts (and_parts (is_number greatest_count text) (list_all is_in_range parts) h).1

-- the limits that the parts of a form set are in their ranges
pub limits_within : (parts : List Part) → list_all is_in_range parts ≡ true → AreLimits (limit_in MaxRules parts) (limit_in MaxLength parts)
limits_within parts h =
    let rules = limit_within MaxRules parts h in let symbols = limit_within MaxLength parts h in
    (rules.0, rules.1, symbols.0, symbols.1)

-- ---- the number of a command

count_within : (parts : List Part) → list_all is_in_range parts ≡ true → IsFrom1 greatest_count (count_in parts)
count_within [] h = (omega arith, omega arith)
count_within (number text ∷ parts) h =
    number_within greatest_count text (and_parts (is_number greatest_count text) (list_all is_in_range parts) h).0
count_within (trace ∷ parts) h = count_within parts (and_parts true (list_all is_in_range parts) h).1
count_within (apart MaxRules text ∷ parts) h = count_within parts (and_parts (is_number 100000 text) (list_all is_in_range parts) h).1
count_within (apart MaxLength text ∷ parts) h = count_within parts (and_parts (is_number 255 text) (list_all is_in_range parts) h).1
count_within (joined MaxRules text ∷ parts) h = count_within parts (and_parts (is_number 100000 text) (list_all is_in_range parts) h).1
count_within (joined MaxLength text ∷ parts) h = count_within parts (and_parts (is_number 255 text) (list_all is_in_range parts) h).1

-- the number that words say is in its range
pub count_within_range : {words : List (List ℕ)} {line : CommandLine} → Says words line → (1 ≤ line.count) × (line.count ≤ 100)
count_within_range says = subst (IsFrom1 greatest_count) (sym says.count) (count_within says.form.parts says.form.in_range)
