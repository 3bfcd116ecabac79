-- Words of the form, and the command line in what the command finds.
use Rattle.std.proofs.Common.{ap, ap₂, refl, sym, subst, codes, true, false, Bool, not, ◌&&◌, ◌||◌, if◌then◌else◌, option_map, true≢false, is_some, Result, Ok, Err, IfOk, IfSome, List, Option, Some, None, [], ◌∷◌, ◌≡◌, ◌∙◌, ℕ}
use Rattle.std.specs.Str.{bytes_eq}
use Rattle.std.specs.Option.{option_map_or, ok_or}
use Rattle.std.specs.List.{find, flat_map, list_all}
use Rattle.std.proofs.lemmas.Bool.{and_parts}
use Rattle.std.proofs.Props.{props}
use mathlib.Core.HLevel.{is_prop→PathP}
use Rattle.clap.specs.Words.{takes, subcommand_of}
use Rattle.swreq_words.specs.declared.command.Command.{Command}
use Rattle.swreq_words.specs.declared.command.CommandLine.{CommandLine}
use Rattle.swreq_words.specs.declared.reading.UsageErr.{UsageErr}
use Rattle.swreq_words.specs.declared.reading.UsageErr.TheVariants.{Usage, Memory}
use Rattle.swreq_words.specs.declared.command.TheConstants.{COMMANDS}
use Rattle.swreq_words.specs.declared.limits.Limit.{Limit}
use Rattle.swreq_words.specs.declared.limits.Limit.TheVariants.{MaxRules, MaxLength}
use Rattle.swreq_words.specs.declared.seen.Seen.{Seen}
use Rattle.swreq_words.specs.Numbers.{AreLimits, number_of}
use Rattle.swreq_words.specs.Commands.{follows, word_of}
use Rattle.swreq_words.specs.Form.{Text, Part, HasForm, Says, words_of, count_in, is_in_range, is_set, limit_in, limit_name, preset, preset_count, takes_number}
use Rattle.swreq_words.specs.Reading.{name_of, read_on, nothing_seen, is_done, are_parts, has_form}
use Rattle.swreq_words.specs.Found.{Fields, HasLimits, count_found, fields_of, limit_found, line_of, line_found}
use Rattle.swreq_words.specs.Taken.{genreq}
use Rattle.swreq_words.proofs.Each.{alike}
use Rattle.swreq_words.proofs.Fronts.{some_same, bytes_same}
use Rattle.swreq_words.proofs.InRange.{limits_within}
use Rattle.swreq_words.proofs.Told.{told}
use Rattle.swreq_words.proofs.Accepts.{accepted, are_of}
use Rattle.swreq_words.proofs.TopCommand.{Taken, taken, rows_of_parts}
use Rattle.swreq_words.proofs.Values.{are_new, given, found, trace_found}

-- ---- words pass the test if and only if they have the form

abbrev Names : Text → Option Command → Type 0
Names w None = Unit {0}
Names w (Some n) = word_of n ≡ w

names_if : (w : Text) (b : Bool) (n : Command) (rest : Option Command) → (b ≡ true → word_of n ≡ w) → Names w rest
    → Names w (if b then Some n else rest)
names_if w true n rest is more = is refl
names_if w false n rest is more = more

its_name : (w : Text) (names : List Command) → Names w (find (λ n. bytes_eq (word_of n) w) names)
its_name w [] = tt
its_name w (n ∷ names) = names_if w (bytes_eq (word_of n) w) n _ (bytes_same (word_of n) w) (its_name w names)

name_is : (n : Command) → name_of (word_of n) ≡ Some n
unfolding name_of
name_is = alike (λ n. name_of (word_of n)) (λ n. Some n) refl

calm_of : {A : Type 0} (w : Option A) → not (is_some w) ≡ true → w ≡ None
calm_of None e = refl
calm_of (Some l) e = absurd (true≢false (sym e))

number_there : (takes some : Bool) → takes ≡ true → (not takes || some) ≡ true → some ≡ true
number_there false some t e = absurd (true≢false (sym t))
number_there true some t e = e

formed_after : (n : Command) (ws : List Text) (o : Option Seen) → read_on (follows n) nothing_seen ws ≡ o
    → option_map_or (is_done (follows n)) o false ≡ true → HasForm (word_of n ∷ ws)
formed_after n ws None e is = absurd (true≢false (sym is))
formed_after n ws (Some after) e is =
    let end = and_parts (not (is_some after.waiting)) (not (takes_number (follows n)) || after.number) is in
    let all = (told (follows n) ws nothing_seen after e (calm_of after.waiting end.0)).0 refl in
    record {
      command = n;
      parts = all.parts;
      spelled = ap (λ rest. word_of n ∷ rest) all.spelled;
      follow = all.follow;
      in_range = all.in_range;
      once = all.once [] (refl, refl, refl, refl);
      counted = λ t. all.counts (number_there (takes_number (follows n)) after.number t end.1) (λ was. true≢false (sym was));
    }

formed_by : (w : Text) (ws : List Text) (o : Option Command) → Names w o
    → option_map_or (λ command. are_parts (follows command) ws) o false ≡ true → HasForm (w ∷ ws)
formed_by w ws None is e = absurd (true≢false (sym e))
formed_by w ws (Some n) is e = subst (λ x. HasForm (x ∷ ws)) is (formed_after n ws (read_on (follows n) nothing_seen ws) refl e)

pub formed : (words : List Text) → has_form words ≡ true → HasForm words
unfolding name_of
formed [] e = absurd (true≢false (sym e))
formed (w ∷ ws) e = formed_by w ws (name_of w) (its_name w COMMANDS) e

done_if : (takes number : Bool) → (takes ≡ true → number ≡ true) → (not takes || number) ≡ true
done_if false number e = refl
done_if true number e = e refl

pub has_form_of : (words : List Text) → HasForm words → has_form words ≡ true
has_form_of words f =
    let may = follows f.command in
    let a = accepted may nothing_seen [] f.parts (refl, refl, refl, refl) f.follow f.in_range f.once in
    let counted : (not (takes_number may) || a.end.number) ≡ true = done_if (takes_number may) a.end.number (λ t. a.counts (f.counted t)) in
    ap has_form f.spelled
    ∙ ap (λ o. option_map_or (λ command. are_parts (follows command) (flat_map words_of f.parts)) o false) (name_is f.command)
    ∙ ap (λ o. option_map_or (is_done may) o false) a.reads
    ∙ ap₂ (λ w n. not (is_some w) && n) a.waits counted

-- ---- what the words say

-- the fields of the line of these parts
abbrev pub line_by : Command → List Part → Fields
line_by n ps = record {
  command = n;
  count = count_in ps;
  max_rules = limit_in MaxRules ps;
  max_length = limit_in MaxLength ps;
  trace = is_set (codes "trace") ps;
}

-- the limit that is found is the one that the parts set
limit_is : (n : Command) (ps : List Part) (l : Limit) → bytes_eq (codes "trace") (limit_name l) ≡ false
    → limit_found l (rows_of_parts (follows n) ps) ≡ limit_in l ps
limit_is n ps l differs = ap (λ o. option_map_or number_of o (preset l)) (found (limit_name l) (follows n) ps differs)

has_limits : (n : Command) (ps : List Part) → list_all is_in_range ps ≡ true → HasLimits (rows_of_parts (follows n) ps)
has_limits n ps h =
    subst (λ x. AreLimits x (limit_found MaxLength (rows_of_parts (follows n) ps))) (sym (limit_is n ps MaxRules refl))
    (subst (λ y. AreLimits (limit_in MaxRules ps) y) (sym (limit_is n ps MaxLength refl)) (limits_within ps h))

pub found_in : (n : Command) (ps : List Part) → line_found (Some (word_of n, rows_of_parts (follows n) ps)) ≡ Some (line_by n ps)
found_in n ps =
    let rows = rows_of_parts (follows n) ps in
    let count : count_found rows ≡ count_in ps =
    ap (λ o. option_map_or number_of o preset_count) (found (codes "number") (follows n) ps refl) in
    ap (option_map (λ command. line_of command rows)) (name_is n)
    ∙ ap (λ line. Some line) (same_fields n count (limit_is n ps MaxRules refl) (limit_is n ps MaxLength refl) (trace_found (follows n) ps))
  where
    same_fields : (n : Command) {a b c d e f : ℕ} {t u : Bool} → a ≡ b → c ≡ d → e ≡ f → t ≡ u
        → (let line : Fields = record { command = n; count = a; max_rules = c; max_length = e; trace = t } in line)
        ≡ record { command = n; count = b; max_rules = d; max_length = f; trace = u }
    same_fields n count rules length trace =
        λ i. record { command = n; count = count i; max_rules = rules i; max_length = length i; trace = trace i }

-- two command lines with the same fields are one
same_line : (a b : CommandLine) → fields_of a ≡ fields_of b → a ≡ b
same_line a b e = λ i. record {
  command = (e i).command;
  count = (e i).count;
  max_rules = (e i).max_rules;
  max_length = (e i).max_length;
  trace = (e i).trace;
  in_range = is_prop→PathP (λ j. AreLimits (e j).max_rules (e j).max_length) (λ j. are_limits_prop (e j).max_rules (e j).max_length)
      a.in_range b.in_range i;
}
  where
    are_limits_prop : (rules symbols : ℕ) → IsProp (AreLimits rules symbols)
    are_limits_prop rules symbols = hlevel props

same_found : (o : Option CommandLine) (line : CommandLine) → option_map fields_of o ≡ Some (fields_of line) → o ≡ Some line
same_found None line e = cc
same_found (Some other) line e = ap (λ l. Some l) (same_line other line (some_same (fields_of other) (fields_of line) e))

says_line : (words : List Text) (line : CommandLine) → (says : Says words line) → line_by says.form.command says.form.parts ≡ fields_of line
says_line words line says = λ i. record {
  command = sym says.command i;
  count = sym says.count i;
  max_rules = sym says.max_rules i;
  max_length = sym says.max_length i;
  trace = sym says.traces i;
}

-- the line that words of this form say
abbrev line_in : {words : List Text} → HasForm words → CommandLine
line_in f = record {
  command = f.command;
  count = count_in f.parts;
  max_rules = limit_in MaxRules f.parts;
  max_length = limit_in MaxLength f.parts;
  trace = is_set (codes "trace") f.parts;
  in_range = limits_within f.parts f.in_range;
}

line_says : (words : List Text) (f : HasForm words) (line : CommandLine) → line_by f.command f.parts ≡ fields_of line → Says words line
line_says words f line e = record {
  form = f;
  command = ap (λ (x : Fields). x.command) (sym e);
  count = ap (λ (x : Fields). x.count) (sym e);
  max_rules = ap (λ (x : Fields). x.max_rules) (sym e);
  max_length = ap (λ (x : Fields). x.max_length) (sym e);
  traces = ap (λ (x : Fields). x.trace) (sym e);
}

-- ---- the command takes them, and finds the line

taken_of : (words : List Text) (f : HasForm words) → Taken f.command f.parts
taken_of words f =
    taken f.command f.parts (are_of (follows f.command) f.parts f.follow f.in_range) (are_new [] [] f.parts (λ id. refl) f.once)
    (λ e. given (codes "number") f.parts (f.counted (ap takes_number e)))

pub takes_of : (words : List Text) → has_form words ≡ true → takes genreq words ≡ true
takes_of words e = let f = formed words e in ap (takes genreq) f.spelled ∙ (taken_of words f).takes_words

found_of : (words : List Text) (f : HasForm words) → line_found (subcommand_of genreq words) ≡ Some (line_by f.command f.parts)
found_of words f =
    ap (λ ws. line_found (subcommand_of genreq ws)) f.spelled ∙ ap line_found (taken_of words f).finds ∙ found_in f.command f.parts

-- the limits that are found are in their ranges
pub limits_found : (words : List Text) → has_form words ≡ true → IfSome (subcommand_of genreq words) (λ found. HasLimits found.1)
limits_found words e =
    let f = formed words e in
    subst (λ o. IfSome o (λ found. HasLimits found.1)) (sym (ap (subcommand_of genreq) f.spelled ∙ (taken_of words f).finds))
    (has_limits f.command f.parts f.in_range)

-- what is found is what the words say
pub found_says : (words : List Text) (line : CommandLine) → has_form words ≡ true
    → line_found (subcommand_of genreq words) ≡ Some (fields_of line) → Says words line
found_says words line e is =
    let f = formed words e in
    line_says words f line (some_same (line_by f.command f.parts) (fields_of line) (sym (found_of words f) ∙ is))

pub says_found : (words : List Text) (line : CommandLine) → Says words line
    → line_found (subcommand_of genreq words) ≡ Some (fields_of line)
says_found words line says = found_of words says.form ∙ ap (λ l. Some l) (says_line words line says)

pub one_line : (words : List Text) (a b : CommandLine) → Says words a → Says words b → a ≡ b
one_line words a b x y =
    same_line a b (some_same (fields_of a) (fields_of b) (sym (says_found words a x) ∙ says_found words b y))

pub line_there : (words : List Text) → has_form words ≡ true
    → (line : CommandLine) × (line_found (subcommand_of genreq words) ≡ Some (fields_of line))
line_there words e = let f = formed words e in (line_in f, found_of words f)

-- ---- what is answered

pub says_form : (words : List Text) (line : CommandLine) → Says words line → has_form words ≡ true
says_form words line says = has_form_of words says.form

-- the words are refused if and only if they say no command line
abbrev pub IsUsage : List Text → Result CommandLine UsageErr → Type 0
IsUsage words answer =
    (answer ≡ Err Usage → (line : CommandLine) → Says words line → ⊥) × (((line : CommandLine) → Says words line → ⊥) → answer ≡ Err Usage)

pub usage_without : (words : List Text) → has_form words ≡ false → IsUsage words (Err Usage)
usage_without words e = (λ same line says. true≢false (sym (says_form words line says) ∙ e), λ none. refl)

pub usage_with : (words : List Text) (answer : Result CommandLine UsageErr) → has_form words ≡ true
    → (answer ≡ Err Usage → ⊥) → IsUsage words answer
usage_with words answer e other =
    let there = line_there words e in
    (λ same line says. other same, λ none. absurd (none there.0 (found_says words there.0 e there.1)))

is_usage : Result CommandLine UsageErr → Bool
is_usage (Ok line) = false
is_usage (Err Usage) = true
is_usage (Err Memory) = false

no_usage : (answer : Result CommandLine UsageErr) → is_usage answer ≡ false → answer ≡ Err Usage → ⊥
unfolding is_usage
no_usage answer is same = true≢false (sym (ap is_usage same) ∙ is)

pub usage_memory : (words : List Text) → has_form words ≡ true → IsUsage words (Err Memory)
unfolding is_usage
usage_memory words e = usage_with words (Err Memory) e (no_usage (Err Memory) refl)

-- the answer is what was found
found_is : (words : List Text) (answer : Result CommandLine UsageErr) (o : Option CommandLine) → (e : has_form words ≡ true)
    → answer ≡ ok_or o Usage → option_map fields_of o ≡ line_found (subcommand_of genreq words)
    → answer ≡ Ok (line_there words e).0
found_is words answer o e is there =
    let line = line_there words e in is ∙ ap (λ x. ok_or x Usage) (same_found o line.0 (there ∙ line.1))

pub ok_found : (words : List Text) (answer : Result CommandLine UsageErr) (o : Option CommandLine) → has_form words ≡ true
    → answer ≡ ok_or o Usage → option_map fields_of o ≡ line_found (subcommand_of genreq words)
    → IfOk answer (λ line. Says words line)
ok_found words answer o e is there =
    subst (λ r. IfOk r (λ line. Says words line)) (sym (found_is words answer o e is there))
    (found_says words (line_there words e).0 e (line_there words e).1)

pub usage_found : (words : List Text) (answer : Result CommandLine UsageErr) (o : Option CommandLine) → has_form words ≡ true
    → answer ≡ ok_or o Usage → option_map fields_of o ≡ line_found (subcommand_of genreq words)
    → IsUsage words answer
unfolding is_usage
usage_found words answer o e is there = usage_with words answer e (no_usage answer (ap is_usage (found_is words answer o e is there)))
