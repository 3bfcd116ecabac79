use Rattle.std.proofs.Common.{◌≡◌, [], take, length, ◌∙◌, ap, subst, arith}
use Rattle.std.proofs.Math.Seq.{take-length}
use Rattle.swreq_trie.specs.Paths.{Leads}
use Rattle.swreq_trie.proofs.Ways.{one_further, leads_to_none}
use Rattle.swreq_trie.proofs.walk.end_of.Goals as goal

pub returns-in-None : goal.returns-in-None
returns-in-None c =
    leads_to_none c.args.edges.now [] c.args.w.now c.loop-symbol.symbol-index c.loop-symbol.node c.loop-symbol.invariant _
    c.loop-symbol-test.true c.requires
    c.in-None.ensures.found

pub loop-symbol-preserved : goal.loop-symbol-preserved
loop-symbol-preserved c =
    one_further c.args.edges.now c.args.w.now c.loop-symbol.symbol-index c.loop-symbol.node c.loop-symbol.invariant
    _ c.loop-symbol-test.true
    c.in-Some.child c.in-Some.ensures.found

pub returns : goal.returns
returns c =
    let all : c.loop-symbol.symbol-index ≡ length c.args.w.now = omega arith in
    subst (λ x. Leads c.args.edges.now 0 x c.loop-symbol.node)
    (ap (λ k. take k c.args.w.now) all ∙ take-length c.args.w.now) c.loop-symbol.invariant
