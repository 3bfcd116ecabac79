-- What the ids of a table stand for in requirements and queries.
use Rattle.std.specs.Prelude.{List, map, All}
use Rattle.swreq_param.specs.Terms.{Term}
use Rattle.swreq_param.specs.Tables.{IsOf, term_at}
use Rattle.swreq_lexicon.specs.swreq_derive.declared.requirements.Requirement.{Requirement}
use Rattle.swreq_lexicon.specs.swreq_derive.declared.requirements.Requirement.TheVariants.{Conf, Layout, Same}
use Rattle.swreq_lexicon.specs.swreq_derive.Facts.{requirement_of}
use Rattle.swreq_lowering.specs.declared.ids.Written.{Written}
use Rattle.swreq_lowering.specs.declared.ids.Query.{Query}
use Rattle.swreq_lowering.specs.declared.ids.Asks.{Asks}
use Rattle.swreq_lowering.specs.declared.ids.Asks.TheVariants as ids
use Rattle.swreq_lowering.specs.Requirements.{PlacedRequirement}
use Rattle.swreq_lowering.specs.Queries.{TermAsks, TermQuery}
use Rattle.swreq_lowering.specs.Queries.TermAsks.{AsksSignature, AsksReduced, AsksRequirement}

abbrev pub placed_by : List Term → Written → PlacedRequirement
placed_by terms r = record { requirement = requirement_of terms r.requirement; left_at = r.left_at; right_at = r.right_at }

abbrev pub placed : List Term → List Written → List PlacedRequirement
placed terms rs = map (placed_by terms) rs

abbrev pub asks_by : List Term → Asks → TermAsks
asks_by terms ids.Signature = AsksSignature
asks_by terms (ids.Reduced t) = AsksReduced (term_at terms t)
asks_by terms (ids.Requirement r) = AsksRequirement (requirement_of terms r)

abbrev pub query_by : List Term → Query → TermQuery
query_by terms q = record { f = q.f; asks = asks_by terms q.asks }

-- what is read past the last query
abbrev pub no_query : Query
no_query = record { f = record { place = 0 }; asks = ids.Signature }

-- ---- ids of the table

abbrev pub HasIdsOf : List Term → Requirement → Type 0
HasIdsOf terms (Conf t p) = IsOf terms t
HasIdsOf terms (Layout t) = IsOf terms t
HasIdsOf terms (Same t u) = IsOf terms t × IsOf terms u

-- The ids of the requirements are of the table.
abbrev pub AreOf : List Term → List Written → Type 0
AreOf terms rs = All (λ r. HasIdsOf terms r.requirement) rs

abbrev pub HasAskedIdsOf : List Term → Asks → Type 0
HasAskedIdsOf terms ids.Signature = Unit {0}
HasAskedIdsOf terms (ids.Reduced t) = IsOf terms t
HasAskedIdsOf terms (ids.Requirement r) = HasIdsOf terms r

abbrev pub HasQueryIdsOf : List Term → Query → Type 0
HasQueryIdsOf terms q = HasAskedIdsOf terms q.asks
