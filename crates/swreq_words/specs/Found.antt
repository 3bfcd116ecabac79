-- The command line that is read off what the command finds.
use Rattle.std.specs.Prelude.{ℕ, Bool, false, List, Option, option_and_then, option_map, codes}
use Rattle.std.specs.Option.{option_map_or}
use Rattle.std.specs.Str.{bytes_eq}
use Rattle.clap.specs.Words.{Row, first_of}
use Rattle.swreq_words.specs.declared.command.CommandLine.{CommandLine}
use Rattle.swreq_words.specs.declared.limits.Limit.{Limit}
use Rattle.swreq_words.specs.declared.limits.Limit.TheVariants.{MaxRules, MaxLength}
use Rattle.swreq_words.specs.declared.command.Command.{Command}
use Rattle.swreq_words.specs.Numbers.{AreLimits, number_of}
use Rattle.swreq_words.specs.Form.{Text, limit_name, preset, preset_count}
use Rattle.swreq_words.specs.Reading.{name_of}

-- what a command line is made of, whether or not its limits are in their ranges
pub record Fields : Type 0 where
  pub command : Command
  pub count : ℕ
  pub max_rules : ℕ
  pub max_length : ℕ
  pub trace : Bool

abbrev pub fields_of : CommandLine → Fields
fields_of line = record {
  command = line.command;
  count = line.count;
  max_rules = line.max_rules;
  max_length = line.max_length;
  trace = line.trace;
}

abbrev pub limit_found : Limit → List Row → ℕ
limit_found limit rows = option_map_or number_of (first_of (limit_name limit) rows) (preset limit)

abbrev pub is_true : Option Text → Bool
is_true found = option_map_or (λ text. bytes_eq text (codes "true")) found false

abbrev pub count_found : List Row → ℕ
count_found rows = option_map_or number_of (first_of (codes "number") rows) preset_count

-- the limits that are found are in their ranges
abbrev pub HasLimits : List Row → Type 0
HasLimits rows = AreLimits (limit_found MaxRules rows) (limit_found MaxLength rows)

abbrev pub line_of : Command → List Row → Fields
line_of command rows = record {
  command = command;
  count = count_found rows;
  max_rules = limit_found MaxRules rows;
  max_length = limit_found MaxLength rows;
  trace = is_true (first_of (codes "trace") rows);
}

abbrev pub line_found : Option (Text × List Row) → Option Fields
line_found found = option_and_then (λ p. option_map (λ command. line_of command p.1) (name_of p.0)) found
