use Rattle.std.proofs.Common.{ap, ap₂, [], ◌∷◌}
use Rattle.swreq_derive.specs.Facts.{statement_of}
use Rattle.swreq_derivation.proofs.DerivationLemmas.{continues_if}
use Rattle.swreq_derivation.proofs.equalities.add_trans.Goals as goal

pub returns-clause-continues : goal.returns-clause-continues
returns-clause-continues c =
    let terms = c.args.derivation.now.table in
    let from = ap₂ (λ y z. statement_of terms y ∷ statement_of terms z ∷ []) c.same_statement.ensures c.same_statement-2.ensures in
    let gives = ap (statement_of terms) c.same_statement-gives.ensures in
    continues_if (λ b w. (_, _, _, from, gives)) c.add.ensures.continues
