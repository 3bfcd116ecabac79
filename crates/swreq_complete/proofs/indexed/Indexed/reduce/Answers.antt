use Rattle.std.proofs.Common.{arith}
use Rattle.swreq_complete.proofs.indexed.Indexed.reduce.Goals as goal

pub reduce_from-requires : goal.reduce_from-requires
reduce_from-requires c before rest e l = absurd (omega (arith, l))
