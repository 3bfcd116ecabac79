use Rattle.swreq_lines.proofs.ReadLines.{line_read}
use Rattle.swreq_lines.proofs.laws.texts_tell_lines_apart.Goals as goal

pub returns : goal.returns
returns c x n l k names h j e = line_read x names n l k h j e
