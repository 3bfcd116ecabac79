-- What the rounds of a plan come to.
use Rattle.std.specs.Prelude.{◌≡◌, ◌⊎◌, List, ◌++◌, Result}
use Rattle.swreq_complete.specs.swreq_rule.declared.rules.Rule.{Rule}
use Rattle.swreq_complete.specs.swreq_watch.declared.events.Event.{Event}
use Rattle.swreq_complete.specs.declared.limit.Limits.{Limits}
use Rattle.swreq_complete.specs.declared.limit.Failed.{Failed}
use Rattle.swreq_complete.specs.Answers.{IsMemory}
use Rattle.swreq_rounds.specs.Plan.{Plan}
use Rattle.swreq_rounds.specs.Rounds.{IsOutcome, ComesTo}

-- Unless memory runs out, rounds have one outcome, and they tell one list of events in all.
abbrev pub OutcomesAreOne : Limits → Plan → Type 0
OutcomesAreOne limits plan =
    (a b : Result (List Rule) Failed) (told also : List Event) → IsOutcome limits plan a told → IsOutcome limits plan b also
    → ((a ≡ b) × (told ≡ also)) ⊎ (IsMemory a ⊎ IsMemory b)

-- What is told until memory runs out is a front of what is told in all.
abbrev pub PartsAreFronts : Limits → Plan → Type 0
PartsAreFronts limits plan =
    (part told : List Event) (answer : Result (List Rule) Failed) → ComesTo limits plan part → IsOutcome limits plan answer told
    → IsMemory answer ⊎ ((rest : List Event) × (told ≡ part ++ rest))
