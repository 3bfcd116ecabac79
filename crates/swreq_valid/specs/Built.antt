-- What building the rules of the protocols, or a machine, comes to.
use Rattle.std.specs.Prelude.{◌≡◌, ◌⊎◌, List, Option, Result, Ok, Err}
use Rattle.swreq_rounds.specs.swreq_derive.Derivation.{TermFacts}
use Rattle.swreq_complete.specs.swreq_rule.declared.rules.Rule.{Rule}
use Rattle.swreq_complete.specs.swreq_watch.declared.events.Event.{Event}
use Rattle.swreq_complete.specs.swreq_watch.Told.{GrewBy}
use Rattle.swreq_complete.specs.declared.limit.Limits.{Limits}
use Rattle.swreq_complete.specs.declared.limit.Failed.{Failed}
use Rattle.swreq_complete.specs.declared.limit.Failed.TheVariants as failed
use Rattle.swreq_rounds.specs.Plan.{Plan}
use Rattle.swreq_rounds.specs.Rounds.{ComesTo, IsOutcome}
use Rattle.swreq_valid.specs.declared.refused.Refused.{Refused}
use Rattle.swreq_valid.specs.declared.refused.Refused.TheVariants.{Limit, NotATypeParameter, Memory}
use Rattle.swreq_valid.specs.Protocols.{ProtocolsView}
use Rattle.swreq_valid.specs.Rounds.{last_rules}
use Rattle.swreq_valid.specs.Sides.{FailsFirst, HoldsOfEach, IsValidSide, Side}

abbrev pub refusal : Failed → Refused
refusal (failed.Limit which trace) = Limit which trace
refusal failed.Memory = Memory

-- Building comes to the rules of the last round where the rounds do not stop at a limit and each side is valid; else to the limit at which
-- they stop, with its trace; else to the place of the first side that is not valid. What it tells in all are the events of the rounds.
abbrev pub IsBuilt : Limits → Plan → TermFacts → List Side → Result (List Rule) Refused → List Event → Type 0
IsBuilt limits plan f sides (Ok rules) told = IsOutcome limits plan (Ok rules) told × HoldsOfEach (IsValidSide f) sides
IsBuilt limits plan f sides (Err (Limit which trace)) told = IsOutcome limits plan (Err (failed.Limit which trace)) told
IsBuilt limits plan f sides (Err (NotATypeParameter at)) told =
    (rules : List Rule) × IsOutcome limits plan (Ok rules) told × FailsFirst (IsValidSide f) sides at
IsBuilt limits plan f sides (Err Memory) told = Unit {0}

abbrev pub IsForMemory : Result (List Rule) Refused → Type 0
IsForMemory answer = answer ≡ Err Memory

-- It comes to this, and the watcher was told what is told: all of it, or, if memory ran out, what the rounds told until then.
abbrev pub Builds : Limits → Plan → TermFacts → List Side → Option (List Event) → Option (List Event) → Result (List Rule) Refused → Type 0
Builds limits plan f sides old new (Ok rules) = (told : List Event) × IsBuilt limits plan f sides (Ok rules) told × GrewBy old new told
Builds limits plan f sides old new (Err (Limit which trace)) =
    (told : List Event) × IsBuilt limits plan f sides (Err (Limit which trace)) told × GrewBy old new told
Builds limits plan f sides old new (Err (NotATypeParameter at)) =
    (told : List Event) × IsBuilt limits plan f sides (Err (NotATypeParameter at)) told × GrewBy old new told
Builds limits plan f sides old new (Err Memory) = (told : List Event) × ComesTo limits plan told × GrewBy old new told

-- Unless memory runs out, it comes to nothing else.
abbrev pub IsOnlyBuilt : Limits → Plan → TermFacts → List Side → Result (List Rule) Refused → Type 0
IsOnlyBuilt limits plan f sides answer = (other : Result (List Rule) Refused) (told : List Event) → IsBuilt limits plan f sides other told
    → (answer ≡ other) ⊎ (IsForMemory answer ⊎ IsForMemory other)

-- the rules of the last round of the protocols, or why there are none
abbrev pub protocol_rules : Result ProtocolsView Refused → Result (List Rule) Refused
protocol_rules (Ok p) = Ok (last_rules p.rounds)
protocol_rules (Err refused) = Err refused

-- The rules are answered where P holds of each side, and otherwise the place of the first side of which it does not.
abbrev pub Judges : (Side → Type 0) → List Side → List Rule → Result (List Rule) Refused → Type 0
Judges P sides rules (Ok answer) = (answer ≡ rules) × HoldsOfEach P sides
Judges P sides rules (Err (Limit which trace)) = ⊥
Judges P sides rules (Err (NotATypeParameter at)) = FailsFirst P sides at
Judges P sides rules (Err Memory) = Unit {0}
