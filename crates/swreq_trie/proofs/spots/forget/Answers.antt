use Rattle.std.proofs.Common.{refl, length, arith}
use Rattle.std.proofs.lemmas.Option.{slice_get_read}
use Rattle.swreq_trie.proofs.Forgetting.{retained, none_forgotten, forgotten_more, all_forgotten}
use Rattle.swreq_trie.proofs.spots.forget.Goals as goal

pub loop-node-init : goal.loop-node-init
loop-node-init c = none_forgotten c.args.lists.now.items c.args.side

pub loop-node-preserved : goal.loop-node-preserved
loop-node-preserved c =
    let lists = c.loop-node.lists.items in
    let many = c.loop-node.invariant.as_many in
    forgotten_more c.args.lists.now.items lists _ c.args.side c.loop-node.node c.loop-node.invariant
    c.index_mut.result.now c.retain.new.list
    (slice_get_read lists (length lists) c.loop-node.node c.index_mut.result.now refl (omega (arith, many)) c.index_mut.ensures.value) refl
    (retained c.index_mut.result.now.items c.retain.new.list.items c.args.side c.retain.ensures)

pub returns : goal.returns
returns c =
    let many = c.loop-node.invariant.as_many in
    all_forgotten c.args.lists.now.items c.loop-node.lists.items c.args.side c.loop-node.node (omega (arith, many)) c.loop-node.invariant
