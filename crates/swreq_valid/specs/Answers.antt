-- What the rounds of a plan come to and tell.
use Rattle.std.specs.Prelude.{◌≡◌, ◌⊎◌, List, Option, Result, Ok, Err}
use Rattle.swreq_complete.specs.swreq_rule.declared.rules.Rule.{Rule}
use Rattle.swreq_complete.specs.swreq_watch.declared.events.Event.{Event}
use Rattle.swreq_complete.specs.swreq_watch.Told.{GrewBy}
use Rattle.swreq_complete.specs.declared.limit.Limits.{Limits}
use Rattle.swreq_complete.specs.declared.limit.Failed.{Failed}
use Rattle.swreq_complete.specs.declared.limit.Failed.TheVariants.{Limit, Memory}
use Rattle.swreq_complete.specs.Answers.{IsMemory}
use Rattle.swreq_rounds.specs.Plan.{Plan}
use Rattle.swreq_rounds.specs.Rounds.{ComesTo, IsOutcome}

-- The rounds come to this answer, and the watcher was told what they tell: all of it, or, if memory ran out, what was told until then.
abbrev pub Answers : Limits → Plan → Option (List Event) → Option (List Event) → Result (List Rule) Failed → Type 0
Answers limits plan old new (Ok rules) = (told : List Event) × IsOutcome limits plan (Ok rules) told × GrewBy old new told
Answers limits plan old new (Err (Limit which trace)) =
    (told : List Event) × IsOutcome limits plan (Err (Limit which trace)) told × GrewBy old new told
Answers limits plan old new (Err Memory) = (told : List Event) × ComesTo limits plan told × GrewBy old new told

-- Unless memory runs out, the rounds come to no other answer.
abbrev pub IsOnlyOutcome : Limits → Plan → Result (List Rule) Failed → Type 0
IsOnlyOutcome limits plan answer = (other : Result (List Rule) Failed) (told : List Event) → IsOutcome limits plan other told
    → (answer ≡ other) ⊎ (IsMemory answer ⊎ IsMemory other)
