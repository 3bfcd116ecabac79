use Rattle.std.proofs.Common.{◌≡◌, ◌<◌}
use Rattle.swreq_machine.specs.swreq_param.{declared.ids.TermId.{TermId}, Tables.{term_at}, Terms.{self}}
use Rattle.swreq_explain.proofs.history.id_of_self.Given as goal

abbrev pub invariant-loop-place : goal.invariant-loop-place
invariant-loop-place l = (t : TermId) → t.place < l.place → term_at l.table t ≡ self → ⊥
