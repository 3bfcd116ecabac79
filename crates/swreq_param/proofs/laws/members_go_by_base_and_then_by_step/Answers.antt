use Rattle.std.proofs.Common.{◌+◌, refl, ap, inl, inr, arith}
use Rattle.swreq_param.proofs.laws.members_go_by_base_and_then_by_step.Goals as goal

pub returns-clause-fewer : goal.returns-clause-fewer
returns-clause-fewer c t u h = inl h

pub returns-clause-bases : goal.returns-clause-bases
returns-clause-bases c t u x y n (inl h) = absurd (omega (arith, n, h))
returns-clause-bases c t u x y n (inr h) = inr (ap (λ k. k + 1) n, inl h.1)

pub returns-clause-steps : goal.returns-clause-steps
returns-clause-steps c t x y h = inr (refl, inr (refl, h))
