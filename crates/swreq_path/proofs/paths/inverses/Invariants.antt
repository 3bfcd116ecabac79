use Rattle.std.proofs.Common.{◌≡◌, map}
use Rattle.swreq_path.specs.Inverse.{inverse_step}
use Rattle.swreq_path.proofs.paths.inverses.Given as goal

abbrev pub invariant-loop-step : goal.invariant-loop-step
invariant-loop-step l = l.out.items ≡ map (λ step. inverse_step step.now) l.yielded
