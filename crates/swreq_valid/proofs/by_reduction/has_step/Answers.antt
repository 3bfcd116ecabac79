use Rattle.std.proofs.Common.{◌↔◌, subst, sym, IfOk, IsTrue}
use Rattle.swreq_rounds.specs.swreq_param.declared.ids.Step.{Step}
use Rattle.swreq_rounds.specs.swreq_param.Tables.{term_at}
use Rattle.swreq_valid.specs.ByReduction.{HasStepOf}
use Rattle.swreq_valid.proofs.by_reduction.has_step.Goals as goal

pub returns-in-Bound : goal.returns-in-Bound
returns-in-Bound c =
    let by = c.args.by.now in
    subst (λ (s : Step).
    IfOk c.has_assoc.result (λ b. IsTrue b ↔ HasStepOf by.text.world.now.lexicon by.rules.now by.over
    (term_at by.text.table.now c.args.subject) s))
    (sym c.in-Bound.is) c.has_assoc.ensures

pub returns-in-Name : goal.returns-in-Name
returns-in-Name c =
    let by = c.args.by.now in
    subst (λ (s : Step).
    IfOk c.has_name.result (λ b. IsTrue b ↔ HasStepOf by.text.world.now.lexicon by.rules.now by.over
    (term_at by.text.table.now c.args.subject) s))
    (sym c.in-Name.is) c.has_name.ensures
