use Rattle.swreq_check.proofs.Settled.{machine_on}
use Rattle.swreq_check.proofs.checking.check_beside.Goals as goal

pub returns-clause-kept : goal.returns-clause-kept
returns-clause-kept g c =
    machine_on c.args.table.now c.check_anew.new.table c.args.turn.now.s.now c.in_ok-next.ensures.extends c.requires.ready
    c.args.kept.f c.args.kept.machine
    c.requires.kept
