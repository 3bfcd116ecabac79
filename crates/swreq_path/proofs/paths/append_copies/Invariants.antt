use Rattle.std.proofs.Common.{◌≡◌, ◌++◌, take}
use Rattle.swreq_path.proofs.paths.append_copies.Given as goal

abbrev pub invariant-loop-step : goal.invariant-loop-step
invariant-loop-step l = l.out.items ≡ l.initial.out.items ++ take l.step-index l.steps
