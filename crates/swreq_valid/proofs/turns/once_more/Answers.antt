use Rattle.std.proofs.Common.{◌∙◌, ◌++◌, ◌∷◌, [], ap, refl}
use Rattle.swreq_valid.proofs.Turned.{goes_once_more}
use Rattle.swreq_valid.proofs.turns.once_more.Goals as goal

pub returns : goal.returns
returns c limits plan passed first flags joined =
    goes_once_more limits plan c.args.state flags passed first c.args.found.rules _ joined refl
    (c.in_ok-before.ensures ∙ ap (λ r. c.args.state.before.items ++ r ∷ []) c.short.ensures)
