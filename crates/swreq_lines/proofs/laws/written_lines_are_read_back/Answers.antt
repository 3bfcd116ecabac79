use Rattle.std.proofs.Common.{◌∙◌, map, sym}
use Rattle.swreq_print.specs.swreq_derive.Lines.{line_of}
use Rattle.swreq_lines.proofs.Back.{none_is_bad, read_back}
use Rattle.swreq_lines.proofs.Grown.{line_ids, lines_still}
use Rattle.swreq_lines.proofs.SameIds.{same_lines}
use Rattle.swreq_lines.proofs.laws.written_lines_are_read_back.Goals as goal

pub returns-clause-good : goal.returns-clause-good
returns-clause-good c x written n tells names h short f = none_is_bad x tells names written h short n f

pub returns-clause-same : goal.returns-clause-same
returns-clause-same c x terms written read tells names h short r = read_back x tells names written h short terms read r

pub returns-clause-ids : goal.returns-clause-ids
returns-clause-ids c x old new written read tells names grown distinct written_ids read_ids h short r =
    same_lines new distinct x read written read_ids (λ l there. line_ids old new grown x l (written_ids l there))
    (read_back x tells names (map (line_of old) written) h short new read r ∙ sym (lines_still old new grown x written written_ids))
