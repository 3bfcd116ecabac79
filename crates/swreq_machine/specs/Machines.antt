-- What is said of machines.
use Rattle.std.specs.Prelude.{Err, List, Ok, Result}
use Rattle.swreq_valid.specs.swreq_derive.declared.known.Params.{Params}
use Rattle.swreq_valid.specs.swreq_derive.Derivation.{TermRequirement}
use Rattle.swreq_valid.specs.swreq_derive.Derivation.Source.{Written}
use Rattle.swreq_valid.specs.swreq_derive.Facts.{generic_params}
use Rattle.swreq_map.specs.swreq_rule.declared.rules.Rule.{Rule}
use Rattle.swreq_map.specs.swreq_complete.declared.limit.Failed.{Failed}
use Rattle.swreq_valid.specs.swreq_correspondence.Symbols.{IsInText}
use Rattle.swreq_valid.specs.swreq_rounds.Given.{list_plan}
use Rattle.swreq_valid.specs.swreq_rounds.Plan.{Plan}
use Rattle.swreq_valid.specs.swreq_rounds.Presents.{AreListRules}
use Rattle.swreq_valid.specs.swreq_symbols.Meaning.{facts_of, symbols_of}
use Rattle.swreq_valid.specs.swreq_world.Worlds.{IdWorld, TextWorld}
use Rattle.swreq_valid.specs.Rounds.{RoundView, last_rules}
use Rattle.swreq_valid.specs.swreq_param.Terms.{Term}
use Rattle.swreq_valid.specs.swreq_derive.declared.requirements.Requirement.{Requirement}
use Rattle.swreq_valid.specs.swreq_world.ByTable.{world_by}
use Rattle.swreq_valid.specs.Checked.{CheckedView, base_of}
use Rattle.swreq_valid.specs.Plans.{listed}
use Rattle.swreq_valid.specs.declared.refused.Refused.{Refused}

-- what contracts see of a machine
pub record MachineView : Type 0 where
  pub params : Params
  pub rounds : List RoundView

-- the answer of a machine with the rules of its last round
abbrev pub machine_rules : Result MachineView Failed → Result (List Rule) Failed
machine_rules (Ok m) = Ok (last_rules m.rounds)
machine_rules (Err failed) = Err failed

-- the rules of the last round of the machine, or why there is none
abbrev pub built_rules : Result MachineView Refused → Result (List Rule) Refused
built_rules (Ok m) = Ok (last_rules m.rounds)
built_rules (Err refused) = Err refused

-- The machine has the rules of the list with its generic parameters.
pub record IsMachineOf (w : TextWorld) (list : List TermRequirement) (m : MachineView) : Type 0 where
  pub rules : AreListRules (symbols_of w.lexicon) (facts_of w) (generic_params m.params) list (last_rules m.rounds)
  pub in_text : IsInText (symbols_of w.lexicon) (Written (generic_params m.params) list)

-- the rounds of a list, over the rules of the protocols
abbrev pub list_of : TextWorld → List Rule → Params → List TermRequirement → Plan
list_of w rules params list = list_plan (symbols_of w.lexicon) (facts_of w) rules (generic_params params) list

-- the rounds of a list over the ids of a table, over the rules of the protocols
abbrev pub machine_plan : List Term → IdWorld → List Rule → Params → List Requirement → Plan
machine_plan terms w rules params list = list_of (world_by terms w) rules params (listed terms list)

-- the rounds of a list over a text whose protocols are checked
abbrev pub plan_over : CheckedView → Params → List Requirement → Plan
plan_over c params list = machine_plan c.text.table.now c.text.world.now (base_of c) params list
