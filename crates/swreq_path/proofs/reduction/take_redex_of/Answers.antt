use Rattle.std.proofs.Common.{subst, sym}
use Rattle.swreq_rule.specs.swreq_word.Overlap.{Containment}
use Rattle.swreq_rule.specs.Reduction.{IsFirstOf}
use Rattle.swreq_path.specs.Reductions.{StepsAt}
use Rattle.swreq_path.proofs.Reducing.{first_is_redex, redex_there, at_first}
use Rattle.swreq_path.proofs.reduction.take_redex_of.Goals as goal

pub step_of-requires-clause-there : goal.step_of-requires-clause-there
step_of-requires-clause-there c =
    let p = c.requires.redex in
    subst (λ w. Containment w c.args.rule.now.left c.args.redex.at) (sym c.deref.ensures.value)
    (redex_there p.rules c.args.word.now.items c.args.redex.at p.number c.args.rule.now
    (first_is_redex p.rules c.args.word.now.items c.args.redex.at p.number p.redex) p.is_rule)

pub returns-clause-ok : goal.returns-clause-ok
returns-clause-ok c rules is first =
    let u = c.args.word.now.items in
    let redex = c.args.redex in
    let step = c.in_ok-step.step in
    let s = c.in_ok-step.ensures rules is in
    let at = subst (λ w. StepsAt rules step redex.at redex.number w s.0) c.deref.ensures.value s.1 in (
      step,
      c.in_ok-push.ensures.items,
      at_first rules step redex.at redex.number u c.take_step_of.new.w.items s.0 at first
          (c.take_step_of.ensures.step rules redex.number is first),
    )
