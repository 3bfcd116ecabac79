-- What is told once more of rounds that came to their end.
use Rattle.std.specs.Prelude.{◌≡◌, ◌⊎◌, ℕ, ◌≤◌, List, [], ◌∷◌, ◌++◌, take, Option, Some, None, Result, Ok, Err}
use Rattle.std.specs.declared.alloc.AllocError.{AllocError}
use Rattle.swreq_complete.specs.swreq_rule.declared.rules.Rule.{Rule}
use Rattle.swreq_complete.specs.swreq_watch.declared.events.Event.{Event}
use Rattle.swreq_complete.specs.swreq_watch.Told.{GrewBy}
use Rattle.swreq_complete.specs.declared.limit.Failed.{Failed}
use Rattle.swreq_complete.specs.declared.limit.Failed.TheVariants.{Memory}
use Rattle.swreq_complete.specs.Events.{events}
use Rattle.swreq_valid.specs.Rounds.{RoundView, last_rules}

-- what the completion of a round told over a base of this many rules: of a short round nothing
abbrev pub told_events : ℕ → Option (List Rule) → List Event
told_events base None = []
told_events base (Some trace) = events base trace

abbrev pub round_events : ℕ → RoundView → List Event
round_events base r = told_events base r.told

-- what these rounds told
abbrev pub events_of : ℕ → List RoundView → List Event
events_of base [] = []
events_of base (r ∷ rounds) = round_events base r ++ events_of base rounds

-- They are none of the events of a round, or those of a front of its rules, not less than the base.
abbrev pub IsFront : ℕ → List Rule → List Event → Type 0
IsFront base rules part = (part ≡ []) ⊎ ((n : ℕ) × (base ≤ n) × (part ≡ events base (take n rules)))

-- The watcher was told none of the events of a round, or those of a front of its rules.
abbrev pub TellsFront : ℕ → List Rule → Option (List Event) → Option (List Event) → Type 0
TellsFront base rules old new = (part : List Event) × IsFront base rules part × GrewBy old new part

-- They are a front of what the completion of a round told.
abbrev pub IsFrontOf : ℕ → Option (List Rule) → List Event → Type 0
IsFrontOf base None part = part ≡ []
IsFrontOf base (Some trace) part = IsFront base trace part

-- The watcher was told a front of what the completion of a round told.
abbrev pub TellsRound : ℕ → RoundView → Option (List Event) → Option (List Event) → Type 0
TellsRound base r old new = (part : List Event) × IsFrontOf base r.told part × GrewBy old new part

-- the rules of the last round, or that memory ran out
abbrev pub rules_again : List RoundView → Result (Unit {0}) AllocError → Result (List Rule) Failed
rules_again rounds (Ok done) = Ok (last_rules rounds)
rules_again rounds (Err e) = Err Memory
