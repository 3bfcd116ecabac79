use Rattle.std.proofs.Common.{subst, sym}
use Rattle.swreq_homotopy.specs.Evidence.{AreLoops}
use Rattle.swreq_minimal.proofs.Showing.{no_loops}
use Rattle.swreq_minimal.proofs.evidence.loops_from.Goals as goal

pub loop-k-init : goal.loop-k-init
loop-k-init c = subst (AreLoops c.args.all.now.rules.now) (sym c.new-loops.ensures.items) (no_loops c.args.all.now.rules.now)
