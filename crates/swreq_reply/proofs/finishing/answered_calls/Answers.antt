use Rattle.std.proofs.Common.{map, refl, subst, sym}
use Rattle.std.specs.Prelude.{All}
use Rattle.swreq_subst.specs.Calls.{IsCallIn, call_by}
use Rattle.swreq_check.specs.CallLines.{AnswersCalls}
use Rattle.swreq_reply.specs.Stages.{AcceptedView, world_in}
use Rattle.swreq_reply.proofs.Staged.{is_accepted}
use Rattle.swreq_reply.proofs.finishing.answered_calls.Goals as goal

pub lines_of_calls-requires-clause-passed : goal.lines_of_calls-requires-clause-passed
lines_of_calls-requires-clause-passed c =
    rw c.limits_of.ensures (record {
      text = c.accepted.invariant.resolved.text;
      passed = (is_accepted c.r.view_is c.accepted.invariant).checked.passed;
    })

pub lines_of_calls-requires-clause-calls : goal.lines_of_calls-requires-clause-calls
lines_of_calls-requires-clause-calls c =
    subst (λ (a : AcceptedView). All (IsCallIn a.resolved.table a.resolved.world) c.args.calls.now) (sym c.accepted.view_is) c.requires

pub returns : goal.returns
returns c = (
  refl,
  subst (λ (a : AcceptedView). AnswersCalls (world_in a.resolved) (map (call_by a.resolved.table) c.args.calls.now) c.new.result)
      c.accepted.view_is (rw c.new.ensures c.in_ok-lines.ensures),
)
