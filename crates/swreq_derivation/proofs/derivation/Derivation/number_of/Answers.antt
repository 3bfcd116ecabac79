use Rattle.std.proofs.Common.{MatchOption, subst, sym}
use Rattle.swreq_derive.specs.{Facts.{statement_of}, Instances.{HasNumber}}
use Rattle.swreq_derivation.specs.{declared.derivation.Derivation.{Derivation}, UnderWay.{AreIdsIn, States, statements_in}}
use Rattle.swreq_derivation.proofs.DerivationLemmas.{number_told}
use Rattle.swreq_derivation.proofs.derivation.Derivation.number_of.Goals as goal

pub returns : goal.returns
returns c =
    let st = c.args.statement in
    subst (λ (v : Derivation). MatchOption c.number_of.result (States v (statement_of v.table st) → ⊥)
    (λ n. HasNumber n (statements_in v) (statement_of v.table st))) c.self.view_is
    (number_told c.self.inside c.self.invariant st c.number_of.result c.len-count.ensures.distinct
    (subst (λ (v : Derivation). AreIdsIn v.table st) (sym c.self.view_is) c.requires) c.number_of.ensures)
