-- The machine of a signature: its list, over the rules of the protocols.
use Rattle.std.specs.Prelude.{List}
use Rattle.swreq_map.specs.swreq_rule.declared.rules.Rule.{Rule}
use Rattle.swreq_valid.specs.swreq_rounds.Plan.{Plan}
use Rattle.swreq_valid.specs.swreq_lowering.Requirements.{PlacedRequirement}
use Rattle.swreq_valid.specs.swreq_world.FactsAt.{source_of, written_list}
use Rattle.swreq_valid.specs.swreq_world.Worlds.{SignatureOver, TextWorld}
use Rattle.swreq_machine.specs.Machines.{list_of}
use Rattle.swreq_valid.specs.Sides.{Side, sides}

-- the rounds of the list of a signature, over the rules of the protocols
abbrev pub signature_plan : TextWorld → List Rule → SignatureOver PlacedRequirement → Plan
signature_plan w rules g = list_of w rules g.params (written_list g)

-- the sides of its requirements, in order
abbrev pub signature_sides : SignatureOver PlacedRequirement → List Side
signature_sides g = sides (source_of g) g.requirements
