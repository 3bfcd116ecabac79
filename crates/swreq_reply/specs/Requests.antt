-- A command, and the parts of the input that it reads.
use Rattle.swreq_valid.specs.swreq_complete.declared.limit.Limits.{Limits}
use Rattle.swreq_words.specs.declared.command.CommandLine.{CommandLine}
use Rattle.swreq_check.specs.declared.content.Content.{Content}
use Rattle.swreq_reply.specs.declared.request.Divided.{Divided}
use Rattle.swreq_reply.specs.Commands.{content_of}
use Rattle.swreq_reply.specs.Inputs.{AreParts, Parts}
use Rattle.swreq_reply.specs.Verdict.{limits_of}
use Rattle.std.specs.Prelude.{◌≤◌}

abbrev pub view_of : Divided → Parts
view_of d = record { input = d.input.now; source = d.source.now; second = d.second.now }

-- what contracts see of a request
pub record RequestView : Type 0 where
  pub line : CommandLine
  pub parts : Parts

-- The parts are those of the input that the command reads.
pub record IsRequest (r : RequestView) : Type 0 where
  pub parts : AreParts r.line.command r.parts.input r.parts

abbrev pub limits_in : RequestView → Limits
limits_in r = limits_of r.line

-- what is printed
abbrev pub printed_of : RequestView → Content
printed_of r = content_of r.line

-- The number of the command is from 1 to 100.
abbrev pub HasCount : CommandLine → Type 0
HasCount line = (1 ≤ line.count) × (line.count ≤ 100)
