use Rattle.std.proofs.Common.{take}
use Rattle.swreq_derivation.specs.UnderWay.{ContinuesFrom}
use Rattle.swreq_readings.specs.{Alphabets.{Fits}, Readable.{IsCarried}}
use Rattle.swreq_readings.proofs.along.carry_all.Given as goal

abbrev pub invariant-loop-k : goal.invariant-loop-k
invariant-loop-k l = record {
  carried : IsCarried l.alphabet l.fn.derivation l.derivation l.fn.from l.fn.to (take l.k l.word) (l.first, l.second);
  continues : ContinuesFrom (Fits l.alphabet) l.fn.derivation l.derivation;
}
