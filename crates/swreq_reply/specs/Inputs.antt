-- What a command reads: a text, or a text and a second part.
use Rattle.std.specs.Prelude.{◌≡◌, ◌≤◌, ◌-◌, ℕ, [], length}
use Rattle.swreq_text.specs.Divided.{Divides}
use Rattle.swreq_print.specs.Names.{Text}
use Rattle.swreq_words.specs.declared.command.Command.{Command}
use Rattle.swreq_words.specs.declared.command.Input.{Input}
use Rattle.swreq_words.specs.declared.command.Input.TheVariants.{Nothing, OnePart, TwoParts}
use Rattle.swreq_words.specs.Commands as commands

-- an input, the source text in it, and what follows the line that divides it
pub record Parts : Type 0 where
  pub input : Text
  pub source : Text
  pub second : Text

-- the offset of the second part, which stands at the end of the input
abbrev pub second_at : Parts → ℕ
second_at p = length p.input - length p.second

-- All of the input is the source, or a line divides it into the source and a second part.
abbrev pub HasParts : Input → Parts → Type 0
HasParts Nothing p = (p.source ≡ p.input) × (p.second ≡ [])
HasParts OnePart p = (p.source ≡ p.input) × (p.second ≡ [])
HasParts TwoParts p = Divides p.input p.source p.second

-- These are the parts of the input that the command reads, which has at most 1,048,576 bytes.
pub record AreParts (c : Command) (input : Text) (p : Parts) : Type 0 where
  pub whole : p.input ≡ input
  pub within : length input ≤ 1048576
  pub divided : HasParts (commands.input c) p
