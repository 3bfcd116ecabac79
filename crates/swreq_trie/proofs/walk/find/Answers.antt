use Rattle.std.proofs.Common.{arith}
use Rattle.swreq_trie.proofs.Ways.{none_told, none_told_at_end, walked_on, none_on, found}
use Rattle.swreq_trie.proofs.walk.find.Goals as goal

pub returns-in-None-clause-found : goal.returns-in-None-clause-found
returns-in-None-clause-found c v =
    none_told c.args.w.now v c.args.edges.now c.args.ends.now c.loop-k.k c.loop-k.node c.loop-k.invariant.walked
    c.loop-k.invariant.none _ (omega arith)
    c.requires c.in-None.ensures.found

pub returns-in-Some-end_at-clause-found : goal.returns-in-Some-end_at-clause-found
returns-in-Some-end_at-clause-found c =
    found c.args.edges.now c.args.ends.now c.args.w.now c.loop-k.k c.loop-k.node c.loop-k.invariant.walked
    c.loop-k.invariant.none _ (omega arith) c.in-Some.child c.in-Some.ensures.found c.in-Some-end_at.number c.in-Some-end_at.ensures

pub loop-k-preserved : goal.loop-k-preserved
loop-k-preserved c = record {
  walked = walked_on c.args.edges.now c.args.ends.now c.args.w.now c.loop-k.k c.loop-k.node c.loop-k.invariant.walked
      c.loop-k.invariant.none _ (omega arith) c.in-Some.child c.in-Some.ensures.found;
  none = none_on c.args.edges.now c.args.ends.now c.args.w.now c.loop-k.k c.loop-k.node c.loop-k.invariant.walked
      c.loop-k.invariant.none _ (omega arith) c.in-Some.child c.in-Some.ensures.found c.requires c.in-None-end_at.ensures;
}

pub returns-clause-found : goal.returns-clause-found
returns-clause-found c v = none_told_at_end c.args.w.now v c.args.edges.now c.args.ends.now c.loop-k.k (omega arith) c.loop-k.invariant.none
