use Rattle.std.proofs.Common.{inl, ap, Err}
use Rattle.swreq_resolve.proofs.Answers.{not_refused, one_refusal}
use Rattle.swreq_resolve.proofs.resolve.resolve_names.Goals as goal

pub returns-in-Some-clause-resolves : goal.returns-in-Some-clause-resolves
returns-in-Some-clause-resolves c h = absurd (not_refused c.args.text.now c.args.skeleton.now c.in-Some.refusal h c.in-Some.ensures)

pub returns-in-Some-clause-refuses : goal.returns-in-Some-clause-refuses
returns-in-Some-clause-refuses c e h =
    inl (ap (λ x. Err x) (one_refusal c.args.text.now c.args.skeleton.now c.in-Some.refusal e c.in-Some.ensures h))

pub returns-in-None-clause-refuses : goal.returns-in-None-clause-refuses
returns-in-None-clause-refuses c e h = absurd (not_refused c.args.text.now c.args.skeleton.now e c.in-None.ensures h)
