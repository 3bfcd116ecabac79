-- A world that belongs to a table of type parameters.
use Rattle.std.specs.Prelude.{List}
use Rattle.swreq_param.specs.Terms.{Term}
use Rattle.swreq_world.specs.ByTable.{IsOverTable, world_by}
use Rattle.swreq_world.specs.Closed.{IsClosed}
use Rattle.swreq_world.specs.Short.{IsShort}
use Rattle.swreq_world.specs.Worlds.{IdWorld}

-- The ids of the world are of the table; all that is written in it, as the table has it, is of the world; and its lists are short.
pub record IsTextOver (terms : List Term) (w : IdWorld) : Type 0 where
  pub table : IsOverTable terms w
  pub closed : IsClosed (world_by terms w)
  pub short : IsShort w
