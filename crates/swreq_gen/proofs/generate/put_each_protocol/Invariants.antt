use Rattle.std.proofs.Common.{◌≡◌, ◌++◌}
use Rattle.swreq_gen.specs.Generated.{each_line, protocol_line}
use Rattle.swreq_gen.proofs.generate.put_each_protocol.Given as goal

abbrev pub invariant-loop-k : goal.invariant-loop-k
invariant-loop-k l = l.out.items ≡ l.fn.out.items ++ each_line (protocol_line l.fn.n) l.k
