use Rattle.std.proofs.Common.{◌≡◌, ◌++◌}
use Rattle.swreq_gen.specs.Generated.{each_line, query_lines, chain}
use Rattle.swreq_gen.proofs.generate.put_each_query.Given as goal

pub record Written (old out path : _) (n k : _) : Type 0 where
  pub lines : out ≡ old ++ each_line (query_lines n) k
  pub chain_is : path ≡ chain k

abbrev pub invariant-loop-k : goal.invariant-loop-k
invariant-loop-k l = Written l.fn.out.items l.out.items l.chain.items l.fn.n l.k
