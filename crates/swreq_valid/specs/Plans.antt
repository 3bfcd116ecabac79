-- The plan of the rounds that the code starts from a world and a table.
use Rattle.std.specs.Prelude.{List, [], ◌∷◌, ◌++◌, map, Contains}
use Rattle.swreq_rounds.specs.swreq_param.declared.ids.ProtoId.{ProtoId}
use Rattle.swreq_rounds.specs.swreq_param.Terms.{Term}
use Rattle.swreq_rounds.specs.swreq_derive.declared.known.Params.{Params}
use Rattle.swreq_rounds.specs.swreq_derive.declared.requirements.Requirement.{Requirement}
use Rattle.swreq_rounds.specs.swreq_derive.Derivation.{Source, TermRequirement}
use Rattle.swreq_rounds.specs.swreq_derive.Derivation.Source.{Written as WrittenList, SelfOf}
use Rattle.swreq_rounds.specs.swreq_derive.Facts.{generic_params, requirement_of}
use Rattle.swreq_world.specs.swreq_lexicon.Views.{LexiconView}
use Rattle.swreq_complete.specs.swreq_rule.declared.rules.Rule.{Rule}
use Rattle.swreq_rounds.specs.Plan.{Item, Plan}
use Rattle.swreq_symbols.specs.declared.over.Over.{Over}
use Rattle.swreq_symbols.specs.declared.over.Over.TheVariants.{Signature, Protocol}
use Rattle.swreq_symbols.specs.declared.text.Text.{Text}
use Rattle.swreq_symbols.specs.Known.{IsRequirementIn}
use Rattle.swreq_symbols.specs.Meaning.{facts_of, symbols_of}
use Rattle.swreq_world.specs.ByTable.{world_by}
use Rattle.swreq_world.specs.Worlds.{IdWorld, requirements_of}
use Rattle.swreq_world.specs.swreq_lowering.declared.ids.Written.{Written}
use Rattle.swreq_valid.specs.declared.wanted.RoundStart.{RoundStart}
use Rattle.swreq_valid.specs.declared.wanted.RoundRequirement.{RoundRequirement}

-- what the requirements say
abbrev pub says : List Term → List RoundRequirement → List TermRequirement
says terms xs = map (λ (x : RoundRequirement). requirement_of terms x.requirement) xs

-- the list of a signature with these requirements, or [τ_0_0 : P]
abbrev pub within : List TermRequirement → Over → Source
within rs (Signature params) = WrittenList (generic_params params) rs
within rs (Protocol p) = SelfOf p

abbrev pub item_of : List Term → List TermRequirement → RoundRequirement → Item
item_of terms rs x = record { source = within rs x.over; requirement = requirement_of terms x.requirement }

abbrev pub items_of : List Term → List RoundRequirement → List Item
items_of terms xs = map (item_of terms (says terms xs)) xs

abbrev pub plan_of : IdWorld → List Term → List Rule → RoundStart → Plan
plan_of w terms base start = record {
  symbols = symbols_of w.lexicon;
  facts = facts_of (world_by terms w);
  base = base;
  basic = start.basic.items;
  all = items_of terms start.all.items;
}

-- The requirements are of the table and of the text.
abbrev pub AreWanted : List Term → LexiconView → List RoundRequirement → Type 0
AreWanted terms x wants = (want : RoundRequirement) → Contains wants want → IsRequirementIn terms x want.requirement

-- Written requirements of the table and of the text.
abbrev pub AreWritten : List Term → LexiconView → List Written → Type 0
AreWritten terms x list = (r : Written) → Contains list r → IsRequirementIn terms x r.requirement

-- Requirements of the table and of the text.
abbrev pub AreKnown : List Term → LexiconView → List Requirement → Type 0
AreKnown terms x list = (r : Requirement) → Contains list r → IsRequirementIn terms x r

-- They are requirements of the text.
abbrev pub AreRequirementsOfText : Text → List Requirement → Type 0
AreRequirementsOfText text list = AreKnown text.table.now text.world.now.lexicon list

-- They are written in the text.
abbrev pub AreWrittenInText : Text → List Written → Type 0
AreWrittenInText text list = AreWritten text.table.now text.world.now.lexicon list

-- ---- what the code keeps of requirements

abbrev pub in_signature : Params → Requirement → RoundRequirement
in_signature params r = record { over = Signature params; requirement = r }

abbrev pub in_protocol : ProtoId → Requirement → RoundRequirement
in_protocol p r = record { over = Protocol p; requirement = r }

-- the requirements of these protocols
abbrev pub in_protocols : IdWorld → List ProtoId → List RoundRequirement
in_protocols w [] = []
in_protocols w (p ∷ ps) = map (in_protocol p) (map (λ (r : Written). r.requirement) (requirements_of w p)) ++ in_protocols w ps

-- what a list says
abbrev pub listed : List Term → List Requirement → List TermRequirement
listed terms rs = map (requirement_of terms) rs

abbrev pub bare : List Written → List Requirement
bare rs = map (λ (r : Written). r.requirement) rs
