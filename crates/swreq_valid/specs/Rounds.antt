-- Rounds, as they are kept.
use Rattle.std.specs.Prelude.{◌≡◌, Bool, false, List, [], ◌∷◌, length, replicate, Option, Some, None, Result, Ok, Err}
use Rattle.std.specs.Borrow.{Bor}
use Rattle.swreq_complete.specs.swreq_rule.declared.rules.Rule.{Rule}
use Rattle.swreq_complete.specs.declared.limit.Limits.{Limits}
use Rattle.swreq_complete.specs.declared.limit.Failed.{Failed}
use Rattle.swreq_rounds.specs.Plan.{AreShown, AreShownByReduction, Plan}
use Rattle.swreq_rounds.specs.Rounds.{Bears, Ends, IsDue, Passed, Stops}
use Rattle.swreq_valid.specs.Flags.{Tells, TellsMore, chosen}

-- A flag for each requirement, set where the round uses it; the rules that its completion told of, if it was completed; and the rules of
-- the round: those with which it ended, or those of the short round.
pub record RoundView : Type 0 where
  pub used : List Bool
  pub told : Option (List Rule)
  pub rules : List Rule

-- A round that ended with these rules.
abbrev pub ended_round : List Bool → List Rule → RoundView
ended_round used rules = record { used = used; told = Some rules; rules = rules }

-- A round that passed a limit with this trace, and whose short round has these rules.
abbrev pub stopped_round : List Bool → List Rule → List Rule → RoundView
stopped_round used trace rules = record { used = used; told = Some trace; rules = rules }

-- A short round with these rules, which was not completed.
abbrev pub short_round : List Bool → List Rule → RoundView
short_round used rules = record { used = used; told = None; rules = rules }

-- The short round that uses these requirements has these rules, and with those that others join by it these are used.
pub record AreJoined (limits : Limits) (plan : Plan) (used : List Bool) (rules : List Rule) (more : List Bool) : Type 0 where
  pub bears : Bears limits plan (chosen plan.all used) rules
  pub joins : TellsMore (AreShownByReduction plan rules) plan.all used more
  pub others : more ≡ used → ⊥

-- The rounds of a plan from that on which uses the requirements with these flags, and is begun anew where this limit was passed.
-- After a round that ended comes the one that uses what its rules show usable, where that is something else than it used; where it is the
-- same, the round is the last. After a short round comes the one that uses what joins by it.
pub data AreRoundsFrom (limits : Limits) (plan : Plan) : List Bool → Option Passed → List RoundView → Type 0 where
  the_last : {used : List Bool} {first : Option Passed} {rules : List Rule} → IsDue limits plan (chosen plan.all used) first
      → Ends limits plan (chosen plan.all used) rules → Tells (AreShown plan rules) plan.all used
      → AreRoundsFrom limits plan used first (ended_round used rules ∷ [])
  before_others : {used usable : List Bool} {first : Option Passed} {rules : List Rule} {others : List RoundView}
      → IsDue limits plan (chosen plan.all used) first → Ends limits plan (chosen plan.all used) rules
      → Tells (AreShown plan rules) plan.all usable → (usable ≡ used → ⊥) → AreRoundsFrom limits plan usable None others
      → AreRoundsFrom limits plan used first (ended_round used rules ∷ others)
  begun_anew : {used more : List Bool} {rules : List Rule} {others : List RoundView} (passed : Passed)
      → Stops limits plan (chosen plan.all used) passed.which passed.trace → AreJoined limits plan used rules more
      → AreRoundsFrom limits plan more (Some passed) others
      → AreRoundsFrom limits plan used None (stopped_round used passed.trace rules ∷ others)
  once_more : {used more : List Bool} {passed : Passed} {rules : List Rule} {others : List RoundView}
      → AreJoined limits plan used rules more → AreRoundsFrom limits plan more (Some passed) others
      → AreRoundsFrom limits plan used (Some passed) (short_round used rules ∷ others)

-- The rounds of a plan, all of them, in order. The first uses none of the requirements.
abbrev pub AreRounds : Limits → Plan → List RoundView → Type 0
AreRounds limits plan rounds = AreRoundsFrom limits plan (replicate (length plan.all) false) None rounds

-- the rules from which each round starts, where those below it are borrowed
abbrev pub first_rules : Option (Bor (List Rule)) → List Rule
first_rules None = []
first_rules (Some rules) = rules.now

-- the rules of the last round
abbrev pub last_rules : List RoundView → List Rule
last_rules [] = []
last_rules (r ∷ []) = r.rules
last_rules (r ∷ s ∷ rounds) = last_rules (s ∷ rounds)

-- the answer of a run with the rules of its last round
abbrev pub rules_of : Result (List RoundView) Failed → Result (List Rule) Failed
rules_of (Ok rounds) = Ok (last_rules rounds)
rules_of (Err failed) = Err failed
