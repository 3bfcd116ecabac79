-- What holds of a request whose source text has a world, and of one whose source text has passed its check.
use Rattle.std.specs.Prelude.{List}
use Rattle.swreq_print.specs.swreq_param.Terms.{Term}
use Rattle.swreq_valid.specs.swreq_symbols.Known.{IsTextOver}
use Rattle.swreq_valid.specs.swreq_world.ByTable.{world_by}
use Rattle.swreq_valid.specs.swreq_world.Worlds.{IdWorld, TextWorld}
use Rattle.swreq_query.specs.Ended.{IsWorldOfText}
use Rattle.swreq_check.specs.declared.checking.Checked.{Checked}
use Rattle.swreq_check.specs.Checks.{IsCheckedFor}
use Rattle.swreq_reply.specs.Requests.{RequestView, limits_in, printed_of}

-- what contracts see of a request, with a world and the table of its type parameters
pub record ResolvedView : Type 0 where
  pub request : RequestView
  pub world : IdWorld
  pub table : List Term

abbrev pub resolved_by : RequestView → IdWorld → List Term → ResolvedView
resolved_by r w terms = record { request = r; world = w; table = terms }

-- the world over type parameters
abbrev pub world_in : ResolvedView → TextWorld
world_in a = world_by a.table a.world

-- It is the world of the source text, and belongs with the table.
pub record IsResolved (a : ResolvedView) : Type 0 where
  pub text : IsTextOver a.table a.world
  pub world : IsWorldOfText a.request.parts.source (world_in a)

-- what contracts see of such a request, with what a check gave
pub record AcceptedView : Type 0 where
  pub resolved : ResolvedView
  pub checked : Checked

abbrev pub accepted_by : RequestView → IdWorld → List Term → Checked → AcceptedView
accepted_by r w terms c = record { resolved = resolved_by r w terms; checked = c }

-- It is what the check of the source text gave.
pub record IsAccepted (a : AcceptedView) : Type 0 where
  pub resolved : IsResolved a.resolved
  pub checked : IsCheckedFor (limits_in a.resolved.request) (world_in a.resolved) a.resolved.world (printed_of a.resolved.request) a.checked
