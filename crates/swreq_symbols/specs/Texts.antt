-- A text with the table of its type parameters.
use Rattle.swreq_correspondence.specs.swreq_param.declared.ids.TermId.{TermId}
use Rattle.swreq_correspondence.specs.swreq_param.Tables.{term_at}
use Rattle.swreq_correspondence.specs.swreq_param.Terms.{Term}
use Rattle.swreq_correspondence.specs.swreq_derive.declared.requirements.Requirement.{Requirement}
use Rattle.swreq_world.specs.ByTable.{world_by}
use Rattle.swreq_world.specs.Worlds.{TextWorld}
use Rattle.swreq_symbols.specs.declared.text.Text.{Text}
use Rattle.swreq_symbols.specs.Known.{IsRequirementIn, IsTypeIn}

-- the world over type parameters
abbrev pub world_of : Text → TextWorld
world_of t = world_by t.table.now t.world.now

-- the type parameter with this id
abbrev pub term_of : Text → TermId → Term
term_of t id = term_at t.table.now id

-- The type parameter is of the text, and its id of the table.
abbrev pub IsTypeOfText : Text → TermId → Type 0
IsTypeOfText text t = IsTypeIn text.table.now text.world.now.lexicon t

-- The requirement is of the text, and its ids are of the table.
abbrev pub IsRequirementOfText : Text → Requirement → Type 0
IsRequirementOfText text r = IsRequirementIn text.table.now text.world.now.lexicon r
