use Rattle.std.proofs.Common.{◌++◌, arith, false, map}
use Rattle.swreq_valid.specs.Flags.{chosen}
use Rattle.swreq_valid.specs.Plans.{in_protocol}
use Rattle.swreq_valid.proofs.OfKept.{all_kept, one_kept}
use Rattle.swreq_valid.proofs.kept.add_kept.Goals as goal

pub loop-k-preserved : goal.loop-k-preserved
loop-k-preserved c =
    one_kept (in_protocol c.args.protocol) c.args.list.now c.args.flags.now c.loop-k.k _ false c.loop-k.wanted.items
    c.add_one.new.wanted.items
    (c.args.wanted.now.items ++ map (in_protocol c.args.protocol) (chosen c.args.list.now c.args.flags.now)) c.loop-k-test.true
    (let a = c.loop-k-test.true in let b = c.requires in omega (arith, a, b)) c.in_ok-add_one.ensures c.loop-k.invariant

pub returns : goal.returns
returns c =
    all_kept (in_protocol c.args.protocol) c.args.list.now c.args.flags.now c.loop-k.k c.loop-k.wanted.items
    (c.args.wanted.now.items ++ map (in_protocol c.args.protocol) (chosen c.args.list.now c.args.flags.now)) c.loop-k-test.false
    c.loop-k.invariant
