use Rattle.swreq_valid.specs.Plans.{plan_of}
use Rattle.swreq_valid.specs.Rounds.{first_rules}
use Rattle.swreq_valid.proofs.Taken.{some_by}
use Rattle.swreq_valid.proofs.Turned.{ends_in_first}
use Rattle.swreq_valid.proofs.turns.after_limit.Goals as goal

pub returns : goal.returns
returns c =
    ends_in_first c.args.start.now.limits
    (plan_of c.args.text.now.world.now c.args.text.now.table.now (first_rules c.args.below) c.args.start.now)
    c.args.state c.requires.flags (record { which = c.args.passed.which; trace = c.args.passed.trace }) c.first_limit.result
    (some_by c.args.state.first c.is_none.result c.is_none.ensures c.if-is_none.false) c.first_limit.ensures c.requires.due c.requires.stops
