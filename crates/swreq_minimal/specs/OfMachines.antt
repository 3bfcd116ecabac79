-- What is said of the list of a machine.
use Rattle.std.specs.Prelude.{List}
use Rattle.swreq_machine.specs.swreq_param.declared.ids.ParamId.{ParamId}
use Rattle.swreq_machine.specs.swreq_param.Terms.{Term}
use Rattle.swreq_machine.specs.swreq_derive.Derivation.{TermRequirement}
use Rattle.swreq_machine.specs.swreq_derive.Facts.{generic_params}
use Rattle.swreq_machine.specs.swreq_world.ByTable.{world_by}
use Rattle.swreq_machine.specs.swreq_world.Worlds.{IdWorld, TextWorld}
use Rattle.swreq_machine.specs.Machines.{IsMachineOf, MachineView}

-- P holds of the world over the table, the generic parameters and the list, for each list of which this is the machine.
abbrev pub OfItsList : List Term → IdWorld → MachineView → (TextWorld → List ParamId → List TermRequirement → Type 0) → Type 0
OfItsList terms w m P =
    (list : List TermRequirement) → IsMachineOf (world_by terms w) list m → P (world_by terms w) (generic_params m.params) list
