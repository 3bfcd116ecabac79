-- What a watcher is told of the rounds of several lists.
use Rattle.std.specs.Prelude.{◌≡◌, ◌⊎◌, List, [], ◌++◌, Option, Result, Ok, Err, MatchResult}
use Rattle.swreq_machine.specs.swreq_derive.declared.requirements.Requirement.{Requirement}
use Rattle.swreq_machine.specs.swreq_derive.Derivation.{TermRequirement}
use Rattle.swreq_machine.specs.swreq_rule.declared.rules.Rule.{Rule}
use Rattle.swreq_candidates.specs.swreq_watch.declared.events.Event.{Event}
use Rattle.swreq_candidates.specs.swreq_watch.Told.{GrewBy}
use Rattle.swreq_machine.specs.swreq_complete.declared.limit.Limits.{Limits}
use Rattle.swreq_machine.specs.swreq_complete.declared.limit.Failed.{Failed}
use Rattle.swreq_machine.specs.swreq_complete.declared.limit.Failed.TheVariants.{Limit, Memory}
use Rattle.swreq_machine.specs.swreq_rounds.Plan.{Plan}
use Rattle.swreq_machine.specs.swreq_rounds.Rounds.{ComesTo, IsOutcome}
use Rattle.swreq_list_rules.specs.declared.setting.Setting.{Setting}
use Rattle.swreq_list_rules.specs.Settings.{plan_in, said_in}

-- Parts, one after the other: each is what the rounds of one of these lists tell, which ended.
pub data AreParts (limits : Limits) (plan : List TermRequirement → Plan) (IsOne : List TermRequirement → Type 0) : List Event → Type 0 where
  no_part : AreParts limits plan IsOne []
  a_part : {before part told : List Event} (list : List TermRequirement) (rules : List Rule)
      → AreParts limits plan IsOne before → IsOne list
      → IsOutcome limits (plan list) (Ok rules) part → told ≡ before ++ part → AreParts limits plan IsOne told

-- The rounds of one of these lists pass the limit, with this trace, and the last part is what they tell.
pub record StopsAt (limits : Limits) (plan : List TermRequirement → Plan) (IsOne : List TermRequirement → Type 0)
    (failed : Failed) (told : List Event) : Type 0 where
  pub before : List Event
  pub part : List Event
  pub list : List TermRequirement
  pub parts : AreParts limits plan IsOne before
  pub is_one : IsOne list
  pub outcome : IsOutcome limits (plan list) (Err failed) part
  pub told_is : told ≡ before ++ part

-- The last part is as far as the rounds of one of these lists came.
pub record IsCutOff (limits : Limits) (plan : List TermRequirement → Plan) (IsOne : List TermRequirement → Type 0)
    (told : List Event) : Type 0 where
  pub before : List Event
  pub part : List Event
  pub list : List TermRequirement
  pub parts : AreParts limits plan IsOne before
  pub is_one : IsOne list
  pub comes : ComesTo limits (plan list) part
  pub told_is : told ≡ before ++ part

-- A limit is one that the rounds of one of these lists pass, with its trace. Where memory runs out, parts are told, and maybe the beginning
-- of one.
abbrev pub FailsBy : Limits → (List TermRequirement → Plan) → (List TermRequirement → Type 0) → Failed → List Event → Type 0
FailsBy limits plan IsOne (Limit which trace) told = StopsAt limits plan IsOne (Limit which trace) told
FailsBy limits plan IsOne Memory told = AreParts limits plan IsOne told ⊎ IsCutOff limits plan IsOne told

-- the watcher was told parts
abbrev pub TellsParts : Limits → (List TermRequirement → Plan) → (List TermRequirement → Type 0)
    → Option (List Event) → Option (List Event) → Type 0
TellsParts limits plan IsOne old new = (told : List Event) × AreParts limits plan IsOne told × GrewBy old new told

-- the watcher was told what was told when it failed
abbrev pub TellsFailure : Limits → (List TermRequirement → Plan) → (List TermRequirement → Type 0)
    → Option (List Event) → Option (List Event) → Failed → Type 0
TellsFailure limits plan IsOne old new failed = (told : List Event) × FailsBy limits plan IsOne failed told × GrewBy old new told

-- The watcher was told parts where there is a result, and otherwise what was told when it failed.
abbrev pub Tells : {T : Type 0} → Setting → (List TermRequirement → Type 0) → Result T Failed
    → Option (List Event) → Option (List Event) → Type 0
Tells s IsOne result old new =
    MatchResult result (λ _. TellsParts s.limits (plan_in s) IsOne old new) (TellsFailure s.limits (plan_in s) IsOne old new)

-- the same, where this is the one list
abbrev pub TellsOfList : {T : Type 0} → Setting → List Requirement → Result T Failed → Option (List Event) → Option (List Event) → Type 0
TellsOfList s list result old new = Tells s (λ l. l ≡ said_in s list) result old new
