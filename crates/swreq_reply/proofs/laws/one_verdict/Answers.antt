use Rattle.std.proofs.Common.{List, subst, sym, ℕ}
use Rattle.swreq_reply.proofs.OfCalls.{IsOnePart}
use Rattle.swreq_reply.proofs.OneRefusal.{AreOne, verdict_is_one}
use Rattle.swreq_reply.proofs.laws.one_verdict.Goals as goal

source : (c : goal.After-one_verdict_on_calls) → AreOne c.args.source.now
source c = record {
  refusal = c.one_reading.ensures.one_refusal;
  no_refusal = c.one_reading.ensures.never_both;
  skeleton = c.one_skeleton.ensures;
  token = c.one_verdict.ensures.one;
  no_token = c.one_verdict.ensures.never_both;
  world = c.world_is_one.ensures;
}

part : (c : goal.After-one_verdict_on_calls) → IsOnePart c.args.input.now c.args.from
part c = record {
  refusal = c.one_reading_from.ensures.one_refusal;
  no_refusal = c.one_reading_from.ensures.never_both;
  calls = c.one_list_of_calls.ensures;
  token = c.one_verdict_on_calls.ensures.one;
  no_token = c.one_verdict_on_calls.ensures.never_both;
}

pub returns : goal.returns
returns c line p are same at =
    verdict_is_one line c.args.input.now p are (subst AreOne (sym same) (source c))
    (subst (IsOnePart p.input) (sym at) (subst (λ (text : List ℕ). IsOnePart text c.args.from) (sym are.whole) (part c)))
