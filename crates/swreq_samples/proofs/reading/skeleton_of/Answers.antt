use Rattle.std.proofs.Common.{refl}
use Rattle.swreq_samples.proofs.reading.skeleton_of.Goals as goal

pub returns : goal.returns
returns c = (c.in_ok-skeleton.ensures.ok c.in_ok-skeleton.skeleton).0 refl
