use Rattle.std.proofs.Common.{◌∙◌, ◌++◌, [], ◌∷◌, ap, map}
use Rattle.swreq_derivation.proofs.stated.Stated.push.Goals as goal
use Rattle.swreq_derivation.{specs.Keys.{statement_by}, proofs.KeyLemmas.{put_last}}

pub returns-clause-ok : goal.returns-clause-ok
returns-clause-ok c =
    ap (map statement_by) c.in_ok-insert.ensures.keys
    ∙ put_last c.key_of-key.result c.self.inside.keys.keys c.args.statement c.key_of-key.ensures
    (λ k w. c.requires k (rw (← c.self.view_is) w))
    ∙ ap (λ z. z ++ c.args.statement ∷ []) c.self.view_is
