use Rattle.std.proofs.Common.{◌≡◌, ◌++◌, take}
use Rattle.swreq_print.specs.Types.{steps_text}
use Rattle.swreq_print.proofs.types.put_steps.Given as goal

abbrev pub invariant-loop-step : goal.invariant-loop-step
invariant-loop-step l = l.out.items ≡ l.fn.out.items ++ steps_text l.names (take l.step-index l.steps)
