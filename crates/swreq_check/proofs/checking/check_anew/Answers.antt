use Rattle.std.proofs.Common.{inr}
use Rattle.swreq_machine.specs.swreq_valid.Rounds.{last_rules}
use Rattle.swreq_machine.specs.swreq_world.Worlds.{signature_at}
use Rattle.swreq_check.specs.Settings.{IsMachineFor, world_in}
use Rattle.swreq_check.proofs.OfChecks.{err_is, one_refused}
use Rattle.swreq_check.proofs.Settled.{machine_on}
use Rattle.swreq_check.proofs.checking.check_anew.Given as given
use Rattle.swreq_check.proofs.checking.check_anew.Goals as goal
use Rattle.swreq_check.proofs.checking.check_anew.Goals.{In_ok-machine}

machine_for : (g : given.Over) (c : In_ok-machine g)
    → IsMachineFor c.args.table.now c.args.turn.now.s.now c.args.turn.now.f c.in_ok-machine.machine
machine_for g c = record {
  signature = c.args.turn.now.in_text;
  valid = c.in_ok-machine.ensures.answer.1.1;
  machine = c.in_ok-machine.ensures.machine;
  params = c.in_ok-machine.ensures.params;
  rounds = c.in_ok-machine.ensures.rounds;
}

pub invariant_of-checked : goal.invariant_of-checked
invariant_of-checked g c = c.requires.ready.rules

pub returns-in_err-machine-clause-check : goal.returns-in_err-machine-clause-check
returns-in_err-machine-clause-check g c =
    let w = world_in c.args.table.now c.args.turn.now.s.now in
    rw (err_is c.from_residual.result _ c.from_residual.ensures.1)
    (one_refused _ w _ (signature_at w c.args.turn.now.f) _ _ c.in_err-machine.field-0.0 c.in_err-machine.ensures.answer)

pub make_pieces-requires-clause-own : goal.make_pieces-requires-clause-own
make_pieces-requires-clause-own g c = record {
  ready = c.requires.ready;
  machine = machine_for g (goal.at.make_pieces-requires-clause-own g c).In_ok-machine;
}

pub returns-in_err-make_pieces-clause-check : goal.returns-in_err-make_pieces-clause-check
returns-in_err-make_pieces-clause-check g c =
    let (told, comes, grew) = c.in_ok-machine.ensures.answer in
    rw (err_is c.from_residual-in_err-make_pieces.result _ c.from_residual-in_err-make_pieces.ensures.1)
    (told, inr (last_rules c.in_ok-machine.machine.rounds, comes), grew)

pub returns-clause-kept : goal.returns-clause-kept
returns-clause-kept g c =
    machine_on c.args.table.now c.make_pieces.new.table c.args.turn.now.s.now c.in_ok-make_pieces.ensures.extends c.requires.ready
    c.args.turn.now.f c.in_ok-machine.machine (machine_for g (goal.at.returns-clause-kept g c).In_ok-machine)

pub returns-clause-check : goal.returns-clause-check
returns-clause-check g c =
    let (told, comes, grew) = c.in_ok-machine.ensures.answer in (told, (last_rules c.in_ok-machine.machine.rounds, comes), grew)
