use Rattle.std.proofs.Common.{ap}
use Rattle.swreq_words.specs.declared.command.Command.{Command}
use Rattle.swreq_reply.specs.Commands.{content_by}
use Rattle.swreq_reply.proofs.Untold.{part_untold, verdict_untold}
use Rattle.swreq_reply.proofs.laws.verify_tells_nothing.Goals as goal

pub returns-clause-verdict : goal.returns-clause-verdict
returns-clause-verdict c line input o told is = verdict_untold line input (ap (λ (c : Command). content_by c line.count) is) o told

pub returns-clause-part : goal.returns-clause-part
returns-clause-part c line input told is = part_untold line input (ap (λ (c : Command). content_by c line.count) is) told
