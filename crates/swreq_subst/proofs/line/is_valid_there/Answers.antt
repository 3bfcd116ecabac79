use Rattle.std.proofs.Common.{◌↔◌, IsTrue, IfOk, Option, List, sym, subst}
use Rattle.swreq_machine.specs.swreq_param.declared.ids.TermId.{TermId}
use Rattle.swreq_machine.specs.swreq_derive.Derivation.{TermRequirement}
use Rattle.swreq_machine.specs.Asked.{IsDerivable}
use Rattle.swreq_machine.specs.Machines.{IsMachineOf}
use Rattle.swreq_subst.specs.Calls.{IsValidThere}
use Rattle.swreq_machine.specs.swreq_symbols.Texts.{world_of}
use Rattle.swreq_subst.proofs.line.is_valid_there.Goals as goal

pub returns-in-Some : goal.returns-in-Some
returns-in-Some c =
    subst (λ (a : Option TermId). IfOk c.is_valid.result
    (λ b. (list : List TermRequirement) → IsMachineOf (world_of c.args.text.now) list c.args.machine.now
    → IsTrue b ↔ IsValidThere (IsDerivable (world_of c.args.text.now) c.args.machine.now list) c.args.text.now.table.now a))
    (sym c.in-Some.is) c.is_valid.ensures
