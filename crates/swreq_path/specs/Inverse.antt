-- Steps and paths the other way.
use Rattle.std.specs.Prelude.{not, List, map, reverse}
use Rattle.swreq_path.specs.declared.steps.RewriteStep.{RewriteStep}

-- the same step the other way
abbrev pub inverse_step : RewriteStep → RewriteStep
inverse_step step = record { before = step.before; rule = step.rule; forward = not step.forward; after = step.after }

-- the steps in opposite order, each the other way
abbrev pub inverse : List RewriteStep → List RewriteStep
inverse steps = map inverse_step (reverse steps)
