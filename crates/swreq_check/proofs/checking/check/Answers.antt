use Rattle.std.proofs.Common.{◌∙◌, []}
use Rattle.swreq_machine.specs.swreq_valid.declared.refused.Refused.TheVariants.{Memory}
use Rattle.swreq_births.proofs.swreq_watch.Told.{grew_none}
use Rattle.swreq_machine.specs.swreq_world.ByTable.{world_by}
use Rattle.swreq_reqsig.proofs.WellFormed.{protocols_formed}
use Rattle.swreq_check.specs.Told.SignaturesTell.{nothing_yet}
use Rattle.swreq_check.proofs.OfChecks.{err_is, protocols_failed, then_all, then_failed}
use Rattle.swreq_check.proofs.PiecesMade.{none_made}
use Rattle.swreq_check.proofs.checking.check.Goals as goal

pub returns-in_err-protocols-clause-check : goal.returns-in_err-protocols-clause-check
returns-in_err-protocols-clause-check g c =
    rw (err_is c.from_residual.result _ c.from_residual.ensures.1)
    (protocols_failed _ (world_by c.args.table.now c.args.asked.now.world.now) _ _ c.in_err-protocols.field-0.0
    c.in_err-protocols.ensures.answer)

pub returns-in_err-pieces-clause-check : goal.returns-in_err-pieces-clause-check
returns-in_err-pieces-clause-check g c =
    rw (err_is c.from_residual-in_err-pieces.result _ c.from_residual-in_err-pieces.ensures.1)
    (then_failed _ (world_by c.args.table.now c.args.asked.now.world.now) _ _ _ _ c.in_ok-protocols.ensures.answer Memory
    ([], nothing_yet, grew_none _))

pub base_for-requires-clause-rounds : goal.base_for-requires-clause-rounds
base_for-requires-clause-rounds g c = (c.args.asked.now.limits, c.in_ok-protocols.ensures.rounds)

pub returns-in_err-base-clause-check : goal.returns-in_err-base-clause-check
returns-in_err-base-clause-check g c =
    rw (err_is c.from_residual-in_err-base.result _ c.from_residual-in_err-base.ensures.1)
    (then_failed _ (world_by c.args.table.now c.args.asked.now.world.now) _ _ _ _ c.in_ok-protocols.ensures.answer Memory
    ([], nothing_yet, grew_none _))

pub returns-in_err-endings-clause-check : goal.returns-in_err-endings-clause-check
returns-in_err-endings-clause-check g c =
    rw (err_is c.from_residual-in_err-endings.result _ c.from_residual-in_err-endings.ensures.1)
    (then_failed _ (world_by c.args.table.now c.args.asked.now.world.now) _ _ _ _ c.in_ok-protocols.ensures.answer Memory
    ([], nothing_yet, grew_none _))

pub invariant_of-setting : goal.invariant_of-setting
invariant_of-setting g c = record { placed = c.args.asked.now.placed }

pub check_all-requires-clause-ready : goal.check_all-requires-clause-ready
check_all-requires-clause-ready g c = record {
  text = c.requires;
  formed = protocols_formed (world_by c.args.table.now c.args.asked.now.world.now) c.requires.closed c.in_ok-protocols.ensures.answer.1.1;
  rules = c.in_ok-protocols.ensures.rules;
  rounds = c.in_ok-protocols.ensures.rounds;
  base = c.in_ok-base.ensures;
  endings = c.in_ok-endings.ensures;
}

pub check_all-requires-clause-pieces : goal.check_all-requires-clause-pieces
check_all-requires-clause-pieces g c =
    none_made _ _ _ c.in_ok-pieces.pieces.items (c.in_ok-pieces.ensures.0 ∙ c.count_of.ensures) c.in_ok-pieces.ensures.1

pub returns-in_err-check_all-clause-check : goal.returns-in_err-check_all-clause-check
returns-in_err-check_all-clause-check g c =
    rw (err_is c.from_residual-in_err-check_all.result _ c.from_residual-in_err-check_all.ensures.1)
    (then_failed _ (world_by c.args.table.now c.args.asked.now.world.now) _ _ _ _ c.in_ok-protocols.ensures.answer _
    c.in_err-check_all.ensures.check)

pub returns-clause-check : goal.returns-clause-check
returns-clause-check g c =
    then_all _ (world_by c.args.table.now c.args.asked.now.world.now) _ _ _ _ c.in_ok-protocols.ensures.answer tt
    c.in_ok-check_all.ensures.check

pub returns-clause-checked : goal.returns-clause-checked
returns-clause-checked g c =
    let all = returns-clause-check g c in record {
      passed = record { rules_are = c.in_ok-protocols.ensures.rules; told = all.0; built = all.1 };
      pieces = c.in_ok-check_all.ensures.pieces;
    }
