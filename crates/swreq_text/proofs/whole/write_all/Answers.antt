use Rattle.std.proofs.Common.{◌∙◌, arith}
use Rattle.std.proofs.lemmas.Grind.{common_steps}
use Rattle.swreq_text.proofs.SoFar.{Appends-more}
use Rattle.swreq_text.proofs.whole.write_all.Goals as goal

pub loop-at-preserved : goal.loop-at-preserved
loop-at-preserved g c = record {
  within = omega (arith, c.in_ok-n.ensures.count);
  uncounted = c.in_ok-n.ensures.uncounted ∙ c.loop-at.invariant.uncounted;
  so_far = Appends-more _ _ _ c.args.bytes.now _ c.loop-at.at c.in_ok-n.n
      (grind (arith, common_steps)) c.loop-at.invariant.so_far c.in_ok-n.ensures.appended;
}
