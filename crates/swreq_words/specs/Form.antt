-- The form of the words, and what words of the form say.
use Rattle.std.specs.Prelude.{◌≡◌, ℕ, Bool, true, false, not, List, [], ◌∷◌, ◌++◌, ◌&&◌, Option, Some, None, if◌then◌else◌, codes}
use Rattle.std.specs.List.{list_all, list_any, flat_map}
use Rattle.std.specs.Option.{option_map_or}
use Rattle.std.specs.Str.{bytes_eq}
use Rattle.swreq_words.specs.declared.command.Command.{Command}
use Rattle.swreq_words.specs.declared.command.CommandLine.{CommandLine}
use Rattle.swreq_words.specs.declared.command.Follows.{Follows}
use Rattle.swreq_words.specs.declared.command.Follows.TheVariants.{Nothing, Options, OptionsAndNumber}
use Rattle.swreq_words.specs.declared.limits.Limit.{Limit}
use Rattle.swreq_words.specs.declared.limits.Limit.TheVariants.{MaxRules, MaxLength}
use Rattle.swreq_words.specs.Commands.{follows, word_of}
use Rattle.swreq_words.specs.Numbers.{is_number, number_of}

abbrev pub Text : Type 0
Text = List ℕ

-- ---- the numbers

-- how a limit is named
abbrev pub limit_name : Limit → Text
limit_name MaxRules = codes "max-rules"
limit_name MaxLength = codes "max-length"

-- the greatest number of a limit
abbrev pub greatest : Limit → ℕ
greatest MaxRules = 100000
greatest MaxLength = 255

-- the number of a limit that no word sets
abbrev pub preset : Limit → ℕ
preset MaxRules = 4000
preset MaxLength = 64

-- the greatest number of a command that takes one
abbrev pub greatest_count : ℕ
greatest_count = 100

-- the number of a command that takes none
abbrev pub preset_count : ℕ
preset_count = 1

-- ---- the form

-- a part of the words after the first: an option of two words, an option of one word, the option `--trace`, or the number
pub data Part : Type 0 where
  apart : Limit → Text → Part
  joined : Limit → Text → Part
  trace : Part
  number : Text → Part

-- the word that names an option
abbrev pub option_word : Text → Text
option_word name = codes "--" ++ name

abbrev pub words_of : Part → List Text
words_of (apart limit text) = option_word (limit_name limit) ∷ text ∷ []
words_of (joined limit text) = (option_word (limit_name limit) ++ (codes "=" ++ text)) ∷ []
words_of trace = option_word (codes "trace") ∷ []
words_of (number text) = text ∷ []

-- the part is one of those that may follow
abbrev pub may_follow : Follows → Part → Bool
may_follow Nothing part = false
may_follow Options (number text) = false
may_follow Options part = true
may_follow OptionsAndNumber part = true

-- the number of the part is in its range
abbrev pub is_in_range : Part → Bool
is_in_range (apart limit text) = is_number (greatest limit) text
is_in_range (joined limit text) = is_number (greatest limit) text
is_in_range trace = true
is_in_range (number text) = is_number greatest_count text

-- the name of what the part sets
abbrev pub sets : Part → Text
sets (apart limit text) = limit_name limit
sets (joined limit text) = limit_name limit
sets trace = codes "trace"
sets (number text) = codes "number"

-- each part sets what none before it has set
abbrev pub is_each_once : List Text → List Part → Bool
is_each_once before [] = true
is_each_once before (part ∷ parts) = not (list_any (λ other. bytes_eq other (sets part)) before) && is_each_once (sets part ∷ before) parts

-- ---- what the words say

-- the text of the part's number, or no text for the trace
abbrev pub text_of : Part → Text
text_of (apart limit text) = text
text_of (joined limit text) = text
text_of trace = []
text_of (number text) = text

-- the text of the first of these parts that sets this
abbrev pub text_set : Text → List Part → Option Text
text_set what [] = None
text_set what (part ∷ parts) = if bytes_eq (sets part) what then Some (text_of part) else text_set what parts

abbrev pub is_set : Text → List Part → Bool
is_set what = list_any (λ part. bytes_eq (sets part) what)

abbrev pub limit_in : Limit → List Part → ℕ
limit_in limit parts = option_map_or number_of (text_set (limit_name limit) parts) (preset limit)

abbrev pub count_in : List Part → ℕ
count_in parts = option_map_or number_of (text_set (codes "number") parts) preset_count

-- a number has to follow the name of the command
abbrev pub takes_number : Follows → Bool
takes_number OptionsAndNumber = true
takes_number _ = false

-- the words are the name of a command and then parts that may follow it; each part has its number in its range, and sets what no part
-- before it sets; and the number of the command is there if it takes one
pub record HasForm (words : List Text) : Type 0 where
  pub command : Command
  pub parts : List Part
  pub spelled : words ≡ word_of command ∷ flat_map words_of parts
  pub follow : list_all (may_follow (follows command)) parts ≡ true
  pub in_range : list_all is_in_range parts ≡ true
  pub once : is_each_once [] parts ≡ true
  pub counted : takes_number (follows command) ≡ true → is_set (codes "number") parts ≡ true

-- the words have the form, and say this command line
pub record Says (words : List Text) (line : CommandLine) : Type 0 where
  pub form : HasForm words
  pub command : line.command ≡ form.command
  pub count : line.count ≡ count_in form.parts
  pub max_rules : line.max_rules ≡ limit_in MaxRules form.parts
  pub max_length : line.max_length ≡ limit_in MaxLength form.parts
  pub traces : line.trace ≡ is_set (codes "trace") form.parts
