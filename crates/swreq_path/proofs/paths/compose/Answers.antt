use Rattle.std.proofs.Common.{◌≡◌, sym, ◌∙◌, ap, subst₂, ◌++◌}
use Rattle.swreq_path.specs.Paths.{StepsLead}
use Rattle.swreq_path.proofs.Leading.{lead_on}
use Rattle.swreq_path.proofs.paths.compose.Goals as goal

pub returns-clause-target : goal.returns-clause-target
returns-clause-target c v h =
    let a = c.args.a.now in
    let b = c.args.b.now in
    let first : c.append_copies.new.out.items ≡ a.steps =
    c.in_ok-append_copies.ensures ∙ ap (λ xs. xs ++ c.items.result.now) c.new-steps.ensures.items ∙ c.items.ensures in
    let steps : c.new.result ≡ a.steps ++ b.steps =
    c.new.ensures ∙ c.in_ok-append_copies-2.ensures ∙ ap (λ xs. xs ++ c.items-2.result.now) first
    ∙ ap (λ xs. a.steps ++ xs) c.items-2.ensures in
    subst₂ (λ xs u. StepsLead c.args.rules.now xs u v) (sym steps) (sym c.in_ok-start.ensures.cases)
    (lead_on c.args.rules.now a.steps b.steps a.start b.start v c.requires.first h)
