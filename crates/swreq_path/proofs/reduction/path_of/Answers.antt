use Rattle.std.proofs.Common.{sym, ◌∙◌, subst}
use Rattle.swreq_rule.specs.swreq_word.Relations.{IsIrreducible}
use Rattle.swreq_rule.specs.Steps.{Step}
use Rattle.swreq_path.specs.Reductions.{StepsReduce, IsReductionPath}
use Rattle.swreq_path.proofs.Reducing.{left_falls, reduce_more, path_reduces}
use Rattle.swreq_path.proofs.reduction.path_of.Goals as goal

pub steps-smaller : goal.steps-smaller
steps-smaller c = left_falls _ _ _ _ _ c.in_ok-take_redex.ensures.ok

pub steps-preserved : goal.steps-preserved
steps-preserved c = reduce_more _ _ _ _ _ _ c.steps.invariant c.in_ok-take_redex.ensures.ok

pub returns : goal.returns
returns c =
    let rules = c.args.rules.now in
    let w = c.args.w.now in
    let v = c.steps.word.items in
    let path : IsReductionPath rules (record { start = c.new-start.result; steps = c.new.result }) w v = record {
      start = c.new-start.ensures ∙ c.in_ok-from_slice.ensures.items;
      steps = subst (λ xs. StepsReduce rules xs w v) (sym c.new.ensures) c.steps.invariant;
      irreducible = subst (λ u. IsIrreducible (Step rules) u) c.deref.ensures.value c.in_default.ensures;
    } in
    let ends = path_reduces rules (record { start = c.new-start.result; steps = c.new.result }) w v path in
    record { reduction = (v, path); target = (v, ends.0, ends.1) }
