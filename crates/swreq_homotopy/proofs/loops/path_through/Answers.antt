use Rattle.std.proofs.Common.{◌≡◌, ◌∙◌, ap, subst, [], ◌∷◌, ◌++◌}
use Rattle.swreq_path.specs.Reductions.{IsReductionPath}
use Rattle.swreq_homotopy.proofs.loops.path_through.Goals as goal

pub returns-clause-through : goal.returns-clause-through
returns-clause-through c =
    let rules = c.args.rules.now in
    let s = c.in_ok-step.ensures in
    let r = c.in_ok-others.ensures.reduction in
    let others = c.in_ok-others.others in
    let side : c.in_ok-side.side ≡ s.0 = c.in_ok-side.ensures c.args.w.now s.0 s.1.leads in
    let path = subst (λ u. IsReductionPath rules others u r.0) (c.symbols.ensures ∙ side) r.1 in (
      s.0,
      r.0,
      record {
        first = c.in_ok-step.step;
        others = others.steps;
        steps_are = c.new.ensures ∙ c.in_ok-append_copies.ensures ∙ ap (λ xs. xs ++ c.items.result.now) (c.in_ok-push.ensures.items
            ∙ ap (λ xs. xs ++ c.in_ok-step.step ∷ []) c.new-steps.ensures.items) ∙ ap (λ xs. c.in_ok-step.step ∷ xs) c.items.ensures;
        goes_to_side = s.1;
        reduces = path.steps;
        irreducible = path.irreducible;
      },
    )
