-- What the calls on a world and a table ask of them.
use Rattle.std.specs.Prelude.{◌<◌, List, length}
use Rattle.swreq_correspondence.specs.swreq_param.declared.ids.TermId.{TermId}
use Rattle.swreq_correspondence.specs.swreq_param.Tables.{IsOf, term_at}
use Rattle.swreq_correspondence.specs.swreq_param.Terms.{Term}
use Rattle.swreq_correspondence.specs.swreq_derive.declared.requirements.Requirement.{Requirement}
use Rattle.swreq_correspondence.specs.swreq_derive.Facts.{requirement_of}
use Rattle.swreq_world.specs.swreq_lexicon.Views.{LexiconView}
use Rattle.swreq_world.specs.swreq_lowering.ByTable.{HasIdsOf}
use Rattle.swreq_world.specs.swreq_lowering.declared.ids.Asks.{Asks}
use Rattle.swreq_world.specs.swreq_lowering.declared.ids.Asks.TheVariants as ids
use Rattle.swreq_world.specs.swreq_lowering.declared.ids.Query.{Query}
use Rattle.swreq_world.specs.Worlds.{IdWorld}
use Rattle.swreq_world.specs.Closed.{IsRequirementOf, IsTermOf}
pub use Rattle.swreq_world.specs.TextOver.{IsTextOver}

-- The id is of the table, and the members of its type parameter are of the text.
abbrev pub IsTypeIn : List Term → LexiconView → TermId → Type 0
IsTypeIn terms x t = IsOf terms t × IsTermOf x (term_at terms t)

-- The ids of the requirement are of the table, and it is of the text.
abbrev pub IsRequirementIn : List Term → LexiconView → Requirement → Type 0
IsRequirementIn terms x r = HasIdsOf terms r × IsRequirementOf x (requirement_of terms r)

-- What is asked has ids of the table, and it is of the text.
abbrev pub IsAskedIn : List Term → LexiconView → Asks → Type 0
IsAskedIn terms x ids.Signature = Unit {0}
IsAskedIn terms x (ids.Reduced t) = IsTypeIn terms x t
IsAskedIn terms x (ids.Requirement r) = IsRequirementIn terms x r

-- The query asks a signature of the text, and what it asks is of the text.
abbrev pub IsQueryIn : List Term → IdWorld → Query → Type 0
IsQueryIn terms w q = (q.f.place < length w.signatures) × IsAskedIn terms w.lexicon q.asks
