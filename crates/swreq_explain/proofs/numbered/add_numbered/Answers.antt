use Rattle.std.proofs.Common.{◌++◌}
use Rattle.swreq_explain.{specs.Numbering.{numbered_from}, proofs.NumberingLemmas.{numbered_all, numbered_more}}
use Rattle.swreq_explain.proofs.numbered.add_numbered.Goals as goal

pub loop-k-preserved : goal.loop-k-preserved
loop-k-preserved c =
    numbered_more c.args.owner c.args.list.now c.loop-k.k _ c.loop-k.numbered.items c.push.new.self.items
    (c.args.numbered.now.items ++ numbered_from c.args.owner 1 c.args.list.now) c.loop-k-test.true
    c.in_ok-push.ensures.items c.loop-k.invariant

pub returns : goal.returns
returns c =
    numbered_all c.args.owner c.args.list.now c.loop-k.k c.loop-k.numbered.items
    (c.args.numbered.now.items ++ numbered_from c.args.owner 1 c.args.list.now) c.loop-k-test.false c.loop-k.invariant
