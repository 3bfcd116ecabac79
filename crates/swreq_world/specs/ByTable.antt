-- The world over type parameters that a world over ids is, by the table that has the ids.
use Rattle.std.specs.Prelude.{List, map, All}
use Rattle.swreq_param.specs.Terms.{Term}
use Rattle.swreq_lowering.specs.declared.ids.Written.{Written}
use Rattle.swreq_lowering.specs.Requirements.{PlacedRequirement}
use Rattle.swreq_lowering.specs.ByTable.{placed, query_by, AreOf, HasQueryIdsOf}
use Rattle.swreq_world.specs.Worlds.{SignatureOver, IdWorld, TextWorld}

abbrev pub signature_by : List Term → SignatureOver Written → SignatureOver PlacedRequirement
signature_by terms g = record {
  signature = g.signature;
  name = g.name;
  outer = g.outer;
  own_depth = g.own_depth;
  params = g.params;
  requirements = placed terms g.requirements;
}

abbrev pub world_by : List Term → IdWorld → TextWorld
world_by terms w = record {
  lexicon = w.lexicon;
  requirements = map (placed terms) w.requirements;
  signatures = map (signature_by terms) w.signatures;
  queries = map (query_by terms) w.queries;
}

-- The ids of requirements and queries are of the table.
pub record IsOverTable (terms : List Term) (w : IdWorld) : Type 0 where
  pub requirements : All (AreOf terms) w.requirements
  pub signatures : All (λ g. AreOf terms g.requirements) w.signatures
  pub queries : All (HasQueryIdsOf terms) w.queries
