-- The command of `clap`, as its parse reads it.
use Rattle.std.specs.Prelude.{true, Some, codes}
use Rattle.std.specs.List.{fold}
use Rattle.clap.specs.Words.{App, Rule, new_app, new_rule, with_rule, with_subcommand}
use Rattle.clap.specs.declared.builder.action.ArgAction.TheVariants.{SetTrue}
use Rattle.swreq_words.specs.declared.command.Command.{Command}
use Rattle.swreq_words.specs.declared.command.Follows.{Follows}
use Rattle.swreq_words.specs.declared.command.Follows.TheVariants.{Nothing, Options, OptionsAndNumber}
use Rattle.swreq_words.specs.declared.limits.Limit.{Limit}
use Rattle.swreq_words.specs.declared.limits.Limit.TheVariants.{MaxRules, MaxLength}
use Rattle.swreq_words.specs.declared.command.TheConstants.{COMMANDS}
use Rattle.swreq_words.specs.Form.{Text, limit_name}
use Rattle.swreq_words.specs.Commands.{follows, word_of}

abbrev pub limit_rule : Limit → Rule
limit_rule limit = record (new_rule (limit_name limit)) { long = Some (limit_name limit) }

abbrev pub trace_rule : Rule
trace_rule = record (new_rule (codes "trace")) { long = Some (codes "trace"); action = Some SetTrue }

abbrev pub number_rule : Rule
number_rule = record (new_rule (codes "number")) { required = true }

abbrev pub with_options : App → App
with_options app = with_rule (with_rule (with_rule app (limit_rule MaxRules)) (limit_rule MaxLength)) trace_rule

-- the command with the options and the number that may follow it
abbrev pub with_parts : Follows → App → App
with_parts Nothing app = app
with_parts Options app = with_options app
with_parts OptionsAndNumber app = with_rule (with_options app) number_rule

abbrev pub leaf : Follows → Text → App
leaf may name = with_parts may (new_app name)

abbrev pub leaf_of : Command → App
leaf_of command = leaf (follows command) (word_of command)

abbrev pub bare : App
bare =
    record (new_app (codes "genreq")) { top = record (new_app (codes "genreq")).top { subcommand_required = true; no_binary_name = true } }

abbrev pub with_leaf : App → Command → App
with_leaf app command = with_subcommand app (leaf_of command).top

abbrev pub genreq : App
genreq = fold with_leaf bare COMMANDS
