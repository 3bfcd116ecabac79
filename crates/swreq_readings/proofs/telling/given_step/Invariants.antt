use Rattle.std.proofs.Common.{◌<◌, ℕ}
use Rattle.swreq_derive.specs.swreq_param.Tables.{term_at}
use Rattle.swreq_world.specs.swreq_lexicon.declared.pair.ProtocolName.{ProtocolName as PairView}
use Rattle.swreq_readings.specs.Readable.{IsGivenAt}
use Rattle.swreq_readings.proofs.telling.given_step.Given as goal

abbrev pub invariant-loop-k : goal.invariant-loop-k
invariant-loop-k l = (j : ℕ) (n : PairView) → j < l.k → IsGivenAt l.alphabet l.derivation (term_at l.derivation.table l.subject) l.step j n
    → ⊥
