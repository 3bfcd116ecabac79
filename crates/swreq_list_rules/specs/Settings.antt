-- What lists are asked over.
use Rattle.std.specs.Prelude.{List}
use Rattle.swreq_machine.specs.swreq_param.declared.ids.ParamId.{ParamId}
use Rattle.swreq_machine.specs.swreq_derive.declared.requirements.Requirement.{Requirement}
use Rattle.swreq_machine.specs.swreq_derive.Derivation.{Source, TermFacts, TermRequirement}
use Rattle.swreq_machine.specs.swreq_derive.Derivation.Source.{Written}
use Rattle.swreq_machine.specs.swreq_derive.Facts.{generic_params, requirement_of}
use Rattle.swreq_machine.specs.swreq_correspondence.Symbols.{Symbols}
use Rattle.swreq_machine.specs.swreq_rounds.Plan.{Plan}
use Rattle.swreq_machine.specs.swreq_symbols.Meaning.{facts_of, symbols_of}
use Rattle.swreq_machine.specs.swreq_symbols.Texts.{world_of}
use Rattle.swreq_machine.specs.swreq_world.Worlds.{TextWorld}
use Rattle.swreq_machine.specs.Machines.{list_of}
use Rattle.swreq_machine.specs.swreq_valid.Checked.{base_of}
use Rattle.swreq_machine.specs.swreq_valid.Plans.{AreRequirementsOfText, listed}
use Rattle.swreq_list_rules.specs.declared.setting.Setting.{Setting}

-- the world of the text
abbrev pub text_in : Setting → TextWorld
text_in s = world_of s.checked.text

-- the symbols of the text
abbrev pub symbols_in : Setting → Symbols
symbols_in s = symbols_of s.checked.text.world.now.lexicon

-- what one derives from
abbrev pub facts_in : Setting → TermFacts
facts_in s = facts_of (text_in s)

-- the generic parameters of a list
abbrev pub params_in : Setting → List ParamId
params_in s = generic_params s.params

-- a list with these generic parameters
abbrev pub source_in : Setting → List TermRequirement → Source
source_in s list = Written (params_in s) list

-- the rounds of a list
abbrev pub plan_in : Setting → List TermRequirement → Plan
plan_in s = list_of (text_in s) (base_of s.checked) s.params

-- what a requirement says
abbrev pub says_in : Setting → Requirement → TermRequirement
says_in s r = requirement_of s.checked.text.table.now r

-- what requirements say
abbrev pub said_in : Setting → List Requirement → List TermRequirement
said_in s list = listed s.checked.text.table.now list

-- requirements of the text
abbrev pub AreKnownIn : Setting → List Requirement → Type 0
AreKnownIn s list = AreRequirementsOfText s.checked.text list
