use Rattle.std.proofs.Common.{refl, replicate, length, false}
use Rattle.swreq_valid.proofs.Flagged.{none_by_item}
use Rattle.swreq_valid.proofs.OneList.{rounds_from_are_one}
use Rattle.swreq_valid.proofs.laws.rounds_are_one.Goals as goal

pub returns : goal.returns
returns c limits plan rounds others h k =
    rounds_from_are_one limits plan (none_by_item plan.all (replicate (length plan.all) false) refl) h k
