use Rattle.std.proofs.Common.{◌∙◌, ◌++◌, ◌∷◌, [], ap}
use Rattle.swreq_valid.specs.swreq_param.declared.ids.Step.TheVariants.{Bound}
use Rattle.swreq_valid.proofs.swreq_symbols.LeastWords.{one_first}
use Rattle.swreq_machine.proofs.reduced.add_first.Goals as goal

pub returns-in-None-clause-step : goal.returns-in-None-clause-step
returns-in-None-clause-step c d first = absurd (c.in-None.ensures.answer d first.given)

pub returns-in-Some-clause-step : goal.returns-in-Some-clause-step
returns-in-Some-clause-step c d first =
    c.put_step.ensures.items
    ∙ ap (λ z. c.args.steps.now.items ++ Bound z ∷ [])
    (one_first c.args.world.now.lexicon c.args.rules.now c.args.before.now c.args.name c.in-Some.d d c.in-Some.ensures.answer first)
