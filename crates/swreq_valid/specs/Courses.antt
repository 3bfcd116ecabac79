-- What is kept of a round that another one came after.
use Rattle.std.specs.Prelude.{List, Option, Some, None}
use Rattle.swreq_complete.specs.swreq_rule.declared.rules.Rule.{Rule}
use Rattle.swreq_valid.specs.declared.course.Course.{Course}
use Rattle.swreq_valid.specs.declared.course.Course.TheVariants.{Ended, Stopped, Short}

-- the rules of the round
abbrev pub rules_by : Course → List Rule
rules_by (Ended rules) = rules
rules_by (Stopped trace rules) = rules
rules_by (Short rules) = rules

-- the rules that its completion told of
abbrev pub told_by : Course → Option (List Rule)
told_by (Ended rules) = Some rules
told_by (Stopped trace rules) = Some trace
told_by (Short rules) = None
