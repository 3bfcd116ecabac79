use Rattle.std.proofs.Common.{◌≤◌, ◌∙◌, arith, length, refl, sym}
use Rattle.std.proofs.lemmas.Result.{IfOk-weaker}
use Rattle.swreq_reply.specs.Requests.{view_of}
use Rattle.swreq_reply.specs.Verdict.IsRefused.{in_one_part, too_long}
use Rattle.swreq_reply.specs.Verdict.IsVerdict.{refused as is_refused}
use Rattle.swreq_reply.proofs.OneRefusal.{long_refused, undivided_refused}
use Rattle.swreq_reply.proofs.Verdicts.{replied, replies_alone}
use Rattle.swreq_reply.proofs.replying.read.Goals as goal

pub returns-then-input-gt-TEXT_LIMIT : goal.returns-then-input-gt-TEXT_LIMIT
returns-then-input-gt-TEXT_LIMIT g c =
    let long = c.if-input-gt-TEXT_LIMIT.true in record {
      reply = replies_alone c.args.line.now c.args.input.now (g.W.Watch.told c.args.watch.now) c.refused.result c.refused.ensures
          (λ o is. is_refused (too_long long is refl));
      refused =
          λ o told r. IfOk-weaker c.refused.result _ _ (λ answer is. is ∙ sym (long_refused c.args.line.now _ long r)) c.refused.ensures;
    }

pub returns-in-None : goal.returns-in-None
returns-in-None g c =
    let within : length c.args.input.now ≤ 1048576 = omega (arith, c.if-input-gt-TEXT_LIMIT.false) in
    let (two, none) = c.in-None.ensures.parts in record {
      reply = replies_alone c.args.line.now c.args.input.now
          (g.W.Watch.told c.args.watch.now) c.refused-in-None.result c.refused-in-None.ensures
          (λ o is. is_refused (in_one_part within two none is refl));
      refused = λ o told r. IfOk-weaker c.refused-in-None.result _ _
          (λ answer is. is ∙ sym (undivided_refused c.args.line.now _ two none within r)) c.refused-in-None.ensures;
    }

pub invariant_of-request : goal.invariant_of-request
invariant_of-request g c = record {
  parts = record {
    whole = refl;
    within = rw c.in-Some.ensures.input (omega (arith, c.if-input-gt-TEXT_LIMIT.false));
    divided = c.in-Some.ensures.parts;
  };
}

pub one_verdict-requires : goal.one_verdict-requires
one_verdict-requires g c = rw c.second_at.ensures (rw c.in-Some.ensures.input (omega arith))

pub returns-in-Some : goal.returns-in-Some
returns-in-Some g c =
    let within : length c.args.input.now ≤ 1048576 = omega (arith, c.if-input-gt-TEXT_LIMIT.false) in
    let some = c.in-Some.ensures in
    let replies = rw some.input at c.with_source.ensures in
    let (verdict, part) = replied c.args.line.now c.args.input.now _ _ c.with_source.result replies in record {
      reply = replies;
      refused = λ o told r. IfOk-weaker c.with_source.result _ _ (λ answer (also, is, grew). c.one_verdict.ensures c.args.line.now
          (view_of c.in-Some.parts) (record { whole = some.input; within = within; divided = some.parts }) refl (sym c.second_at.ensures)
          o answer told also r is) verdict;
    }
