use Rattle.std.proofs.Common.{None}
use Rattle.swreq_resolve.specs.First.{least}
use Rattle.swreq_subst.specs.Refusals.{of_call, refusals}
use Rattle.swreq_subst.proofs.Refusing.{all_parts, more_parts}
use Rattle.swreq_subst.proofs.refusals.first_refusal.Goals as goal

pub loop-k-preserved : goal.loop-k-preserved
loop-k-preserved c =
    let w = c.args.words.now.world.now in
    let text = c.args.words.now.text.now in
    let calls = c.args.calls.now in
    more_parts (of_call w text) calls c.loop-k.k c.index-calls-k.result c.loop-k.best c.check_call-best.result
    (least None (refusals w text calls)) c.loop-k-test.true
    c.index-calls-k.is c.check_call-best.ensures c.loop-k.invariant

pub returns : goal.returns
returns c =
    let calls = c.args.calls.now in
    all_parts (of_call c.args.words.now.world.now c.args.words.now.text.now) calls c.loop-k.k c.loop-k.best
    (least None (refusals c.args.words.now.world.now c.args.words.now.text.now calls)) c.loop-k-test.false
    c.loop-k.invariant
