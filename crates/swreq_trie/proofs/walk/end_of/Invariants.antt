use Rattle.std.proofs.Common.{take}
use Rattle.swreq_trie.specs.Paths.{Leads}
use Rattle.swreq_trie.proofs.walk.end_of.Given as goal

abbrev pub invariant-loop-symbol : goal.invariant-loop-symbol
invariant-loop-symbol l = Leads l.edges 0 (take l.symbol-index l.w) l.node
