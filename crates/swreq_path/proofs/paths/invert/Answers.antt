use Rattle.std.proofs.Common.{◌≡◌, sym, ◌∙◌, ap, subst}
use Rattle.swreq_path.specs.Paths.{StepsLead}
use Rattle.swreq_path.specs.Inverse.{inverse}
use Rattle.swreq_path.proofs.Leading.{lead_back}
use Rattle.swreq_path.proofs.paths.invert.Goals as goal

pub returns-clause-target : goal.returns-clause-target
returns-clause-target c =
    let a = c.args.a.now in
    let steps : c.new.result ≡ inverse a.steps = c.new.ensures ∙ c.in_ok-steps.ensures ∙ ap inverse c.items.ensures in
    subst (λ xs. StepsLead c.args.rules.now xs c.in_ok-start.start a.start) (sym steps)
    (lead_back c.args.rules.now a.steps a.start c.in_ok-start.start c.in_ok-start.ensures)
