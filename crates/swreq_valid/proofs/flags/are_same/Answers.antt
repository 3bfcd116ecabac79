use Rattle.std.proofs.lemmas.Slice.Eq.{slice_eq-Decides}
use Rattle.swreq_valid.proofs.Flagged.{flags_decide}
use Rattle.swreq_valid.proofs.flags.are_same.Goals as goal

pub returns : goal.returns
returns c = slice_eq-Decides flags_decide c.args.first.now c.args.second.now c.eq.result c.eq.ensures
