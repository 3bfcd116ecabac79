use Rattle.swreq_gen.specs.Generated.{protocol_line}
use Rattle.swreq_gen.proofs.Steps.{grown}
use Rattle.swreq_gen.proofs.generate.put_each_protocol.Goals as goal

pub loop-k-preserved : goal.loop-k-preserved
loop-k-preserved c = grown (protocol_line c.args.n) c.loop-k.k c.args.out.now.items _ _ c.loop-k.invariant c.in_ok-put_protocol.ensures
