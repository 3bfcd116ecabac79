use Rattle.swreq_gen.specs.Generated.{query_lines}
use Rattle.swreq_gen.proofs.Steps.{grown}
use Rattle.swreq_gen.proofs.generate.put_each_query.Goals as goal

pub loop-k-preserved : goal.loop-k-preserved
loop-k-preserved c = record {
  lines = grown (query_lines c.args.n) c.loop-k.k c.args.out.now.items _ _ c.loop-k.invariant.lines c.in_ok-put_queries.ensures;
  chain_is = c.in_ok-lengthen.ensures;
}
