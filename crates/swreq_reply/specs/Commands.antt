-- What each command prints.
use Rattle.std.specs.Prelude.{ℕ}
use Rattle.swreq_words.specs.declared.command.Command.{Command}
use Rattle.swreq_words.specs.declared.command.Command.TheVariants as command
use Rattle.swreq_words.specs.declared.command.CommandLine.{CommandLine}
use Rattle.swreq_check.specs.declared.content.Backing.TheVariants.{Nothing, Derivation, Path}
use Rattle.swreq_check.specs.declared.content.Content.{Content}
use Rattle.swreq_check.specs.declared.content.Content.TheVariants.{Answers, Signatures, Systems, Calls, Families, Judgements}
use Rattle.swreq_check.specs.declared.content.Shown.TheVariants.{Each, Counts}

-- what the command prints, whose number is n
abbrev pub content_by : Command → ℕ → Content
content_by command.Answer n = Answers (Each Nothing)
content_by command.Signatures n = Signatures
content_by command.Rules n = Systems
content_by command.Gen n = Answers (Counts n)
content_by command.Explain n = Answers (Each Derivation)
content_by command.Verify n = Judgements
content_by command.Paths n = Answers (Each Path)
content_by command.Calls n = Calls
content_by command.Requirements n = Families

abbrev pub content_of : CommandLine → Content
content_of line = content_by line.command line.count
