use Rattle.swreq_words.proofs.Lines.{one_line}
use Rattle.swreq_words.proofs.laws.one_command_line.Goals as goal

pub returns : goal.returns
returns c = one_line
