use Rattle.std.proofs.Common.{subst, sym}
use Rattle.swreq_machine.specs.swreq_param.declared.ids.Step.{Step}
use Rattle.swreq_machine.specs.swreq_param.Terms.Term.{Member}
use Rattle.swreq_candidates.specs.Evidence.{IsPlainIn}
use Rattle.swreq_machine.specs.swreq_symbols.Texts.{term_of}
use Rattle.swreq_minimal.specs.TextLists.{facts_by, said_by}
use Rattle.swreq_minimal.proofs.plain.gives_step.Goals as goal

pub returns-in-Bound : goal.returns-in-Bound
returns-in-Bound c h ps plain =
    let l = c.args.among.now in
    subst (λ (z : Step). IsPlainIn (facts_by l) ps (said_by l) (Member (term_of l.text c.args.t) z))
    (sym c.in-Bound.is) (c.gives_assoc.ensures h ps plain)
