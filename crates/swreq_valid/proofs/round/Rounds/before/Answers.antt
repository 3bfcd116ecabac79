use Rattle.std.proofs.Common.{◌∙◌, ◌∷◌, ◌++◌, [], ap, ap₂, sym}
use Rattle.swreq_valid.specs.Rounds.{ended_round, last_rules}
use Rattle.swreq_valid.proofs.Running.{last_of_more}
use Rattle.swreq_valid.proofs.round.Rounds.before.Goals as goal

pub returns : goal.returns
returns c =
    let last =
    sym (ap last_rules (sym c.self.view_is) ∙ last_of_more c.self.inside.before (ended_round c.self.inside.used c.self.inside.last)) in
    (c.self.inside.used, sym c.self.view_is ∙ ap₂ (λ b l. b ++ ended_round c.self.inside.used l ∷ []) (sym c.items.ensures) last)
