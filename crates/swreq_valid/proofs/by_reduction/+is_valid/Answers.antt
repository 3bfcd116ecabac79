use Rattle.swreq_rounds.specs.swreq_param.Tables.{term_at}
use Rattle.swreq_valid.proofs.ByReduction.{member_result}
use Rattle.swreq_symbols.specs.Texts.{world_of}
use Rattle.swreq_valid.proofs.by_reduction.+is_valid.Goals as goal

pub returns-then-branch : goal.returns-then-branch
returns-then-branch t c =
    let by = c.args.by.now in
    member_result (world_of by.text) by.rules.now by.over (term_at by.text.table.now c.args.subject)
    (term_at by.text.table.now c.in-Some.base) c.in-Some.step
    c.in-Some.ensures.1 c.has_step.result (c.in_ok-is_valid-in-Some.ensures.0 c.if-branch.true) c.has_step.ensures
