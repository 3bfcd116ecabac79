-- What a table that grows keeps and gains.
use Rattle.std.specs.Prelude.{◌≡◌, List, ◌++◌}
use Rattle.swreq_param.specs.declared.ids.TermId.{TermId}
use Rattle.swreq_param.specs.Terms.{Term}
use Rattle.swreq_param.specs.Tables.{Extends, IsOf, term_at}
use Rattle.swreq_lowering.specs.declared.ids.Written.{Written}
use Rattle.swreq_lowering.specs.declared.ids.Asks.{Asks}
use Rattle.swreq_lowering.specs.Requirements.{PlacedRequirement}
use Rattle.swreq_lowering.specs.Queries.{TermAsks}
use Rattle.swreq_lowering.specs.ByTable.{placed, AreOf, asks_by, HasAskedIdsOf}

-- The new table begins with the old one, and there the id stands for t.
pub record Spells (old new : List Term) (t : Term) (id : TermId) : Type 0 where
  pub extends : Extends old new
  pub is_of : IsOf new id
  pub stands : term_at new id ≡ t

-- The new table begins with the old one, and the requirements after are those before with some more.
pub record Adds (old new : List Term) (before after : List Written) (more : List PlacedRequirement) : Type 0 where
  pub extends : Extends old new
  pub are_of : AreOf old before → AreOf new after
  pub placed : AreOf old before → placed new after ≡ placed old before ++ more

-- The new table begins with the old one, and these are the requirements.
pub record Lists (old new : List Term) (requirements : List PlacedRequirement) (written : List Written) : Type 0 where
  pub extends : Extends old new
  pub are_of : AreOf new written
  pub placed : placed new written ≡ requirements

-- The new table begins with the old one, and this is asked.
pub record AddsAsked (old new : List Term) (asked : TermAsks) (asks : Asks) : Type 0 where
  pub extends : Extends old new
  pub are_of : HasAskedIdsOf new asks
  pub means : asks_by new asks ≡ asked
