use Rattle.std.proofs.Common.{map, take}
use Rattle.swreq_derive.specs.{Facts.{statement_of}, Instances.{AreStated}}
use Rattle.swreq_derivation.specs.UnderWay.{statements_in}
use Rattle.swreq_derivation.proofs.adding.premises.Given as goal

abbrev pub invariant-loop-k : goal.invariant-loop-k
invariant-loop-k l = AreStated (statements_in l.derivation) l.numbers.items (map (statement_of l.derivation.table) (take l.k l.from))
