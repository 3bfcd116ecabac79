-- How the form is tested, one word after another.
use Rattle.std.specs.Prelude.{◌==◌, Bool, true, false, not, List, [], ◌∷◌, ◌++◌, ◌&&◌, ◌||◌, Option, Some, None, option_and_then, is_some, if◌then◌else◌, codes}
use Rattle.std.specs.List.{find}
use Rattle.std.specs.Str.{bytes_eq}
use Rattle.std.specs.Option.{option_map_or}
use Rattle.swreq_words.specs.declared.command.Command.{Command}
use Rattle.swreq_words.specs.declared.command.TheConstants.{COMMANDS}
use Rattle.swreq_words.specs.declared.command.Follows.{Follows}
use Rattle.swreq_words.specs.declared.command.Follows.TheVariants.{Nothing, Options, OptionsAndNumber}
use Rattle.swreq_words.specs.declared.limits.Limit.{Limit}
use Rattle.swreq_words.specs.declared.limits.Limit.TheVariants.{MaxRules, MaxLength}
use Rattle.swreq_words.specs.declared.seen.Seen.{Seen}
use Rattle.swreq_words.specs.Numbers.{is_number}
use Rattle.swreq_words.specs.Form.{Text, limit_name, greatest, greatest_count, option_word, takes_number}
use Rattle.swreq_words.specs.Commands.{follows, word_of}

-- the command that a word names
unfoldable pub name_of : Text → Option Command
name_of word = find (λ command. bytes_eq (word_of command) word) COMMANDS

-- what follows this front in the text, if the text begins with it
unfoldable pub after : Text → Text → Option Text
after [] text = Some text
after (x ∷ xs) [] = None
after (x ∷ xs) (y ∷ ys) = if y == x then after xs ys else None

-- what stands before a limit's number in one word
abbrev pub front_of : Limit → Text
front_of limit = option_word (limit_name limit) ++ codes "="

-- what a word is if no limit waits for its number: it names a limit whose number comes next, sets a limit, is `--trace`, or is none of
-- these
pub data Meaning : Type 0 where
  opens : Limit → Meaning
  sets_limit : Limit → Text → Meaning
  traces : Meaning
  other : Meaning

abbrev pub set_or : Limit → Option Text → Meaning → Meaning
set_or limit (Some text) next = sets_limit limit text
set_or limit None next = next

abbrev pub set_by : Limit → Text → Meaning → Meaning
set_by limit word next = set_or limit (after (front_of limit) word) next

abbrev pub meaning_of_one : Text → Meaning
meaning_of_one word = if bytes_eq word (option_word (codes "trace")) then traces
    else set_by MaxRules word (set_by MaxLength word other)

abbrev pub meaning_of : Text → Meaning
meaning_of word = if bytes_eq word (option_word (limit_name MaxRules)) then opens MaxRules
    else (if bytes_eq word (option_word (limit_name MaxLength)) then opens MaxLength
    else meaning_of_one word)

-- ---- one word

abbrev pub nothing_seen : Seen
nothing_seen = record { waiting = None; max_rules = false; max_length = false; trace = false; number = false }

abbrev pub if_new : Bool → Bool → Seen → Option Seen
if_new was may next = if not was && may then Some next else None

abbrev pub with_limit : Seen → Limit → Text → Option Seen
with_limit seen MaxRules text =
    if_new seen.max_rules (is_number (greatest MaxRules) text) (record seen { waiting = None; max_rules = true })
with_limit seen MaxLength text =
    if_new seen.max_length (is_number (greatest MaxLength) text) (record seen { waiting = None; max_length = true })

abbrev pub with_number : Follows → Seen → Text → Option Seen
with_number may seen text = if_new seen.number (takes_number may && is_number greatest_count text) (record seen { number = true })

abbrev pub with_meaning : Follows → Seen → Text → Meaning → Option Seen
with_meaning may seen word (opens limit) = Some (record seen { waiting = Some limit })
with_meaning may seen word (sets_limit limit text) = with_limit seen limit text
with_meaning may seen word traces = if_new seen.trace true (record seen { trace = true })
with_meaning may seen word other = with_number may seen word

abbrev pub with_word : Follows → Seen → Text → Option Limit → Option Seen
with_word may seen word (Some limit) = with_limit seen limit word
with_word may seen word None = with_meaning may seen word (meaning_of word)

-- what was seen after one word more; no word may follow a command that nothing may follow
abbrev pub with_next : Follows → Seen → Text → Option Seen
with_next Nothing seen word = None
with_next Options seen word = with_word Options seen word seen.waiting
with_next OptionsAndNumber seen word = with_word OptionsAndNumber seen word seen.waiting

-- ---- all words

unfoldable pub read_on : Follows → Seen → List Text → Option Seen
read_on may seen [] = Some seen
read_on may seen (word ∷ words) = option_and_then (λ next. read_on may next words) (with_next may seen word)

abbrev pub is_done : Follows → Seen → Bool
is_done may seen = not (is_some seen.waiting) && (not (takes_number may) || seen.number)

abbrev pub are_parts : Follows → List Text → Bool
are_parts may words = option_map_or (is_done may) (read_on may nothing_seen words) false

abbrev pub has_form : List Text → Bool
has_form [] = false
has_form (word ∷ words) = option_map_or (λ command. are_parts (follows command) words) (name_of word) false
