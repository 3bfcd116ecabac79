use Rattle.swreq_candidates.proofs.Cuts.{congruent_by_blocks, same_blocks, whole_word}
use Rattle.swreq_candidates.proofs.OneBlock.{least_blocks, least_by_blocks, one_block}
use Rattle.swreq_candidates.proofs.laws.congruence_goes_by_blocks.Goals as goal

pub returns-clause-one : goal.returns-clause-one
returns-clause-one c = same_blocks

pub returns-clause-whole : goal.returns-clause-whole
returns-clause-whole c = whole_word

pub returns-clause-congruent : goal.returns-clause-congruent
returns-clause-congruent c = congruent_by_blocks

pub returns-clause-least : goal.returns-clause-least
returns-clause-least c m f params list fit named u k =
    (least_blocks m f params list fit named u k, least_by_blocks m f params list fit named u k)

pub returns-clause-minimal : goal.returns-clause-minimal
returns-clause-minimal c = one_block
