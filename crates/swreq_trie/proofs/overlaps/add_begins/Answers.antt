use Rattle.std.proofs.Common.{arith}
use Rattle.swreq_trie.specs.Keys.{IsBeginKey}
use Rattle.swreq_trie.proofs.Collecting.{gains_start, gains_more, gains_all}
use Rattle.swreq_trie.proofs.overlaps.add_begins.Goals as goal

pub loop-spot-init : goal.loop-spot-init
loop-spot-init c = gains_start c.args.spots.now (IsBeginKey c.args.number) c.args.keys.now.items

pub loop-spot-preserved : goal.loop-spot-preserved
loop-spot-preserved c =
    gains_more c.args.spots.now (IsBeginKey c.args.number) c.loop-spot.spot-index _ c.loop-spot-test.true
    c.args.keys.now.items c.loop-spot.keys.items
    c.add_begin.new.keys.items c.loop-spot.invariant c.in_ok-add_begin.ensures

pub returns : goal.returns
returns c = gains_all c.args.spots.now (IsBeginKey c.args.number) c.loop-spot.spot-index
    (omega arith) c.args.keys.now.items c.loop-spot.keys.items c.loop-spot.invariant
