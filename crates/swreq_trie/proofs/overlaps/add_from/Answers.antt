use Rattle.std.proofs.Common.{arith}
use Rattle.swreq_trie.specs.Keys.{IsFromKey}
use Rattle.swreq_trie.proofs.Collecting.{gains_start, gains_more, gains_all}
use Rattle.swreq_trie.proofs.overlaps.add_from.Goals as goal

pub loop-spot-init : goal.loop-spot-init
loop-spot-init c = gains_start c.args.spots.now (IsFromKey c.args.number c.args.at c.args.long c.args.depth) c.args.keys.now.items

pub loop-spot-preserved : goal.loop-spot-preserved
loop-spot-preserved c =
    gains_more c.args.spots.now (IsFromKey c.args.number c.args.at c.args.long c.args.depth) c.loop-spot.spot-index _ c.loop-spot-test.true
    c.args.keys.now.items c.loop-spot.keys.items
    c.add_from_one.new.keys.items c.loop-spot.invariant c.in_ok-add_from_one.ensures

pub returns : goal.returns
returns c = gains_all c.args.spots.now (IsFromKey c.args.number c.args.at c.args.long c.args.depth) c.loop-spot.spot-index
    (omega arith) c.args.keys.now.items c.loop-spot.keys.items c.loop-spot.invariant
