use Rattle.std.proofs.Common.{refl, arith}
use Rattle.std.proofs.lemmas.Result.{on_ok_weaker}
use Rattle.swreq_trie.proofs.Ways.{none_met, one_further, met_more, met_all, met_whole}
use Rattle.swreq_trie.proofs.walk.find_met.Goals as goal

pub loop-k-init : goal.loop-k-init
loop-k-init c =
    record { walked = refl; met = none_met c.args.edges.now c.args.ends.now c.args.w.now c.clear.new.self.items c.clear.ensures.items }

pub returns-in-None : goal.returns-in-None
returns-in-None c =
    met_all c.args.edges.now c.args.ends.now c.args.w.now c.loop-k.k c.loop-k.node c.loop-k.invariant.walked _
    (omega arith) c.requires c.in-None.ensures.found
    c.loop-k.nodes.items c.loop-k.invariant.met

pub loop-k-preserved : goal.loop-k-preserved
loop-k-preserved c =
    let e = c.in_ok-add_ended-in-Some.ensures in
    record {
      walked = one_further c.args.edges.now c.args.w.now c.loop-k.k c.loop-k.node c.loop-k.invariant.walked _
          (omega arith) c.in-Some.child c.in-Some.ensures.found;
      met = met_more c.args.edges.now c.args.ends.now c.args.w.now c.loop-k.k c.loop-k.node c.loop-k.invariant.walked _
          (omega arith) c.loop-k.nodes.items
          c.add_ended.new.nodes.items c.loop-k.invariant.met c.requires c.in-Some.child _ c.in-Some.ensures.found
          refl e.ended e.kept e.only;
    }

pub returns : goal.returns
returns c =
    on_ok_weaker c.push.result
    (met_whole c.args.edges.now c.args.ends.now c.args.w.now c.loop-k.k c.loop-k.node (omega arith) c.loop-k.invariant.walked c.requires
    c.loop-k.nodes.items c.push.new.nodes.items _ c.loop-k.invariant.met (omega arith))
    c.push.ensures
