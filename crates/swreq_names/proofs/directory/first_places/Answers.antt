use Rattle.std.proofs.Common.{◌∙◌, ◌-◌, cond, get_or, Some, None, arith}
use Rattle.std.specs.Str.{bytes_eq}
use Rattle.swreq_names.proofs.Firsts.{declared_back}
use Rattle.swreq_names.proofs.directory.first_places.Goals as goal

pub loop-i-preserved : goal.loop-i-preserved
loop-i-preserved c = record {
  within = let w = c.loop-i.invariant.within in omega arith;
  len = c.note.ensures.len ∙ c.loop-i.invariant.len;
  first = λ r q is.
      declared_back c.args.items.now c.loop-i.i c.index-items-i.result q (get_or c.loop-i.firsts.items r None)
      (get_or c.note.new.firsts.items r None) c.loop-i-test.true c.loop-i.invariant.within
      c.index-items-i.is (c.note.ensures.noted r q is ∙ (λ j. cond (bytes_eq q (c.items.ensures j)) (Some (c.loop-i.i - 1))
      (get_or c.loop-i.firsts.items r None))) (c.loop-i.invariant.first r q is);
}
