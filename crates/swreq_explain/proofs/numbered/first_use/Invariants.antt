use Rattle.std.proofs.Common.{ℕ, ◌<◌}
use Rattle.swreq_explain.specs.Uses.{Uses}
use Rattle.swreq_explain.proofs.numbered.first_use.Given as goal

abbrev pub invariant-loop-earlier : goal.invariant-loop-earlier
invariant-loop-earlier l = (i : ℕ) → i < l.earlier → Uses l.makings.rounds.now i l.place → ⊥
