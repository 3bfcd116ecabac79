use Rattle.std.proofs.Common.{◌<◌, ℕ}
use Rattle.swreq_readings.specs.swreq_lexicon.declared.pair.ProtocolName.{ProtocolName as PairView}
use Rattle.swreq_births.specs.Types.{IsShownAt}
use Rattle.swreq_births.proofs.types.shown_step.Given as goal

abbrev pub invariant-loop-k : goal.invariant-loop-k
invariant-loop-k l = (j : ℕ) (n : PairView) → j < l.k → IsShownAt l.alphabet l.rules l.word l.step j n → ⊥
