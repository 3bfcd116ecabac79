-- The lists of a world, made over a table that grows.
use Rattle.std.specs.Prelude.{◌≡◌, List, map}
use Rattle.swreq_param.specs.Terms.{Term}
use Rattle.swreq_lowering.specs.Queries.{query_of}
use Rattle.swreq_lowering.specs.Signatures.{in_order}
use Rattle.swreq_lowering.specs.Words.{WordsView}
use Rattle.swreq_world.specs.declared.made.WorldLists.{WorldLists}
use Rattle.swreq_world.specs.Entries.{FillsEntries}
use Rattle.swreq_world.specs.Filling.{FillsLists, FillsQueries}
use Rattle.swreq_world.specs.Own.{own_signature}
use Rattle.swreq_world.specs.Text.{requirements_named}

-- The lists of the text with these words, made over the tables between these.
pub record AreListsOf (old new : List Term) (w : WordsView) (made : WorldLists) : Type 0 where
  pub second : List Term
  pub third : List Term
  pub order : made.order.value ≡ in_order w.skeleton
  pub requirements : FillsLists old second (map (requirements_named w) w.lexicon.protocols) made.requirements.items
  pub signatures : FillsEntries second third (map (own_signature w made.order.value) made.order.value) made.signatures.items
  pub queries : FillsQueries third new (map (query_of w made.order.value) w.skeleton.queries) made.queries.items
