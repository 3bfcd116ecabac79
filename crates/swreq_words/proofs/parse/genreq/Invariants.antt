use Rattle.std.proofs.Common.{◌≡◌, take}
use Rattle.std.specs.List.{fold}
use Rattle.clap.specs.Words.{app_of}
use Rattle.swreq_words.specs.declared.command.TheConstants.{COMMANDS}
use Rattle.swreq_words.specs.Taken.{bare, with_leaf}
use Rattle.swreq_words.proofs.parse.genreq.Given as goal

abbrev pub invariant-loop-of : goal.invariant-loop-of
invariant-loop-of l = app_of l.command ≡ fold with_leaf bare (take l.of-index COMMANDS)
