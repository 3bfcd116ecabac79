use Rattle.std.proofs.Common.{◌<◌, ℕ}
use Rattle.swreq_derive.specs.swreq_param.declared.ids.ProtoId.{ProtoId}
use Rattle.swreq_readings.specs.Alphabets.{IsParentFor}
use Rattle.swreq_readings.proofs.inheriting.parent_for.Given as goal

abbrev pub invariant-loop-k : goal.invariant-loop-k
invariant-loop-k l = (j : ℕ) (q : ProtoId) → j < l.k → IsParentFor l.alphabet l.fn.protocol l.name j q → ⊥
