use Rattle.std.proofs.Common.{arith}
use Rattle.swreq_trie.specs.Keys.{IsInsideKey}
use Rattle.swreq_trie.proofs.Collecting.{gains_start, gains_more, gains_all}
use Rattle.swreq_trie.proofs.overlaps.add_insides.Goals as goal

pub loop-spot-init : goal.loop-spot-init
loop-spot-init c = gains_start c.args.spots.now (IsInsideKey c.args.entries.now c.args.left.now c.args.number) c.args.keys.now.items

pub loop-spot-preserved : goal.loop-spot-preserved
loop-spot-preserved c =
    gains_more c.args.spots.now (IsInsideKey c.args.entries.now c.args.left.now c.args.number) c.loop-spot.spot-index _
    c.loop-spot-test.true c.args.keys.now.items c.loop-spot.keys.items
    c.add_inside.new.keys.items c.loop-spot.invariant c.in_ok-add_inside.ensures

pub returns : goal.returns
returns c = gains_all c.args.spots.now (IsInsideKey c.args.entries.now c.args.left.now c.args.number) c.loop-spot.spot-index
    (omega arith) c.args.keys.now.items c.loop-spot.keys.items c.loop-spot.invariant
