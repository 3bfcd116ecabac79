use Rattle.std.proofs.Common.{subst, sym}
use Rattle.std.specs.List.{AllByRecursion}
use Rattle.swreq_print.specs.swreq_lowering.OfText.{IsStepOf}
use Rattle.swreq_lines.proofs.TypeWords.{by_steps_readable, readable_by_steps}
use Rattle.swreq_lines.proofs.of_text.has_type.Goals as goal

pub returns : goal.returns
returns c =
    let x = c.args.names.now in
    let t = c.args.t.now in (
      (λ h. readable_by_steps x t c.numbers_are_short.ensures
          (subst (AllByRecursion (IsStepOf x)) c.items.ensures (c.has_steps.ensures.0 h))),
      (λ h. c.has_steps.ensures.1 (subst (AllByRecursion (IsStepOf x)) (sym c.items.ensures) (by_steps_readable x t h))),
    )
