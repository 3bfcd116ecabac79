-- Lists whose items have ids of a table that grows.
use Rattle.std.specs.Prelude.{◌≡◌, List, All, map}
use Rattle.swreq_param.specs.Terms.{Term}
use Rattle.swreq_param.specs.Tables.{Extends}
use Rattle.swreq_lowering.specs.declared.ids.Written.{Written}
use Rattle.swreq_lowering.specs.declared.ids.Query.{Query}
use Rattle.swreq_lowering.specs.Requirements.{PlacedRequirement}
use Rattle.swreq_lowering.specs.Queries.{TermQuery}
use Rattle.swreq_lowering.specs.ByTable.{placed, AreOf, query_by, HasQueryIdsOf}

-- The new table begins with the old one, it has the ids of the items, and by it the items mean these.
pub record Fills {A B : Type 0} (HasIds : List Term → A → Type 0) (meaning : List Term → A → B) (old new : List Term) (meant : List B)
    (items : List A) : Type 0 where
  pub extends : Extends old new
  pub are_of : All (HasIds new) items
  pub means : map (meaning new) items ≡ meant

-- the lists of protocols, and the queries
abbrev pub FillsLists : List Term → List Term → List (List PlacedRequirement) → List (List Written) → Type 0
FillsLists = Fills AreOf placed

abbrev pub FillsQueries : List Term → List Term → List TermQuery → List Query → Type 0
FillsQueries = Fills HasQueryIdsOf query_by
