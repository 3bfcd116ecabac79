-- Signatures of a text whose rounds have ended.
use Rattle.std.specs.Prelude.{◌≤◌, ℕ, List, Ok, length}
use Rattle.swreq_print.specs.swreq_decl.declared.skeleton.Skeleton.{Skeleton}
use Rattle.swreq_print.specs.swreq_decl.Skeletons.{StandsFor}
use Rattle.swreq_machine.specs.swreq_resolve.Resolving.{Resolve}
use Rattle.swreq_print.specs.swreq_rule.declared.rules.Rule.{Rule}
use Rattle.swreq_machine.specs.swreq_watch.declared.events.Event.{Event}
use Rattle.swreq_machine.specs.swreq_complete.declared.limit.Limits.{Limits}
use Rattle.swreq_machine.specs.swreq_rounds.Rounds.{IsOutcome}
use Rattle.swreq_print.specs.swreq_lowering.Requirements.{PlacedRequirement}
use Rattle.swreq_machine.specs.swreq_world.WorldOf.{IsWorldOf}
use Rattle.swreq_machine.specs.swreq_world.Worlds.{SignatureOver, TextWorld}
use Rattle.swreq_machine.specs.Machines.{list_of}
use Rattle.swreq_machine.specs.swreq_valid.Protocols.{protocols_of}
use Rattle.swreq_machine.specs.swreq_world.FactsAt.{written_list}

-- The rounds of the protocols come to rules within the limits, and over these the rounds of the signature's list do.
pub record HasEnded (limits : Limits) (w : TextWorld) (g : SignatureOver PlacedRequirement) : Type 0 where
  pub rules : List Rule
  pub first : List Event
  pub of_protocols : IsOutcome limits (protocols_of w) (Ok rules) first
  pub own : List Rule
  pub more : List Event
  pub of_list : IsOutcome limits (list_of w rules g.params (written_list g)) (Ok own) more

-- This is the world of the text, which has at most 1,048,576 bytes: a skeleton stands for it, whose names resolve.
pub record IsWorldOfText (text : List ℕ) (w : TextWorld) : Type 0 where
  pub within : length text ≤ 1048576
  pub skeleton : Skeleton
  pub stands : StandsFor text skeleton
  pub resolve : Resolve text skeleton
  pub world : IsWorldOf text skeleton w
