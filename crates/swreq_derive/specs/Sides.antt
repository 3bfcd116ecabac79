-- The sides of an equality, over the ids of a table of type parameters.
use Rattle.std.specs.Prelude.{List}
use Rattle.swreq_param.specs.Terms.{Term}
use Rattle.swreq_param.specs.Tables.{IsOf}
use Rattle.swreq_derive.specs.declared.comparing.Sides.{Sides}

-- Both sides are ids of the table.
abbrev pub AreSidesOf : List Term → Sides → Type 0
AreSidesOf terms s = IsOf terms s.left × IsOf terms s.right
