-- The commands: how each is named, what may follow its name, and what it reads.
use Rattle.std.specs.Prelude.{ℕ, List, codes}
use Rattle.swreq_words.specs.declared.command.Command.{Command}
use Rattle.swreq_words.specs.declared.command.Command.TheVariants.{Answer, Signatures, Rules, Gen, Explain, Verify, Paths, Calls, Requirements}
use Rattle.swreq_words.specs.declared.command.Follows.{Follows}
use Rattle.swreq_words.specs.declared.command.Follows.TheVariants as follow
use Rattle.swreq_words.specs.declared.command.Input.{Input}
use Rattle.swreq_words.specs.declared.command.Input.TheVariants.{Nothing, OnePart, TwoParts}

-- how a command is named
abbrev pub word_of : Command → List ℕ
word_of Answer = codes "answer"
word_of Signatures = codes "signatures"
word_of Rules = codes "rules"
word_of Gen = codes "gen"
word_of Explain = codes "explain"
word_of Verify = codes "verify"
word_of Paths = codes "paths"
word_of Calls = codes "calls"
word_of Requirements = codes "requirements"

-- what may follow the name of a command
abbrev pub follows : Command → Follows
follows Answer = follow.Options
follows Signatures = follow.Options
follows Rules = follow.Options
follows Gen = follow.OptionsAndNumber
follows Explain = follow.Options
follows Verify = follow.Nothing
follows Paths = follow.Options
follows Calls = follow.Options
follows Requirements = follow.Options

-- what a command reads: nothing, a text, or a text and a second part
abbrev pub input : Command → Input
input Answer = OnePart
input Signatures = OnePart
input Rules = OnePart
input Gen = Nothing
input Explain = OnePart
input Verify = TwoParts
input Paths = OnePart
input Calls = TwoParts
input Requirements = OnePart
