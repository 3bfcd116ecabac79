use Rattle.std.proofs.Common.{◌∙◌, sym}
use Rattle.swreq_valid.proofs.ByReduction.{alike_by}
use Rattle.swreq_valid.proofs.by_reduction.reduce_alike.Goals as goal

pub returns : goal.returns
returns c =
    alike_by c.args.rules.now c.args.word.now c.args.other.now c.in_ok-first.first.items c.in_ok-last.last.items
    c.in_ok-first.ensures c.in_ok-last.ensures
    c.are_same.result (
      (λ h. sym c.deref.ensures.value ∙ c.are_same.ensures.0 h ∙ c.deref-2.ensures.value),
      λ e. c.are_same.ensures.1 (c.deref.ensures.value ∙ e ∙ sym c.deref-2.ensures.value),
    )
