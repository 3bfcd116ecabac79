use Rattle.std.proofs.Common.{◌∙◌, ◌++◌, ◌∷◌, [], ap, refl}
use Rattle.swreq_valid.specs.Rounds.{stopped_round}
use Rattle.swreq_valid.proofs.Turned.{begins_anew}
use Rattle.swreq_valid.proofs.turns.anew.Goals as goal

pub returns : goal.returns
returns c limits plan first flags stop joined =
    let u = c.args.state in
    let trace = c.in_ok-trace.ensures ∙ c.items.ensures in
    begins_anew limits plan u flags first
    (record { which = c.args.passed.which; trace = c.args.passed.trace }) stop c.args.found.rules _ joined refl
    (c.in_ok-before.ensures
    ∙ ap (λ r. u.before.items ++ r ∷ []) (c.stopped.ensures ∙ ap (λ t. stopped_round u.used.items t c.args.found.rules) trace))
