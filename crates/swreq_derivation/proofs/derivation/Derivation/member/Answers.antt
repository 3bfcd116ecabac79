use Rattle.std.proofs.Common.{◌≡◌, subst}
use Rattle.swreq_derivation.specs.{declared.derivation.Derivation.{Derivation}, Inside.{view_of}, UnderWay.{Continues, statements_in}}
use Rattle.swreq_derivation.proofs.DerivationLemmas.{continues_by_terms, said_by_terms, view}
use Rattle.swreq_derivation.proofs.derivation.Derivation.member.Goals as goal

pub returns-clause-said : goal.returns-clause-said
returns-clause-said c =
    let d = c.self.inside in
    subst (λ (v : Derivation). statements_in (view c.member.new.self d.lines.items) ≡ statements_in v) c.self.view_is
    (said_by_terms (view_of d) c.member.new.self c.self.invariant.ids c.member.ensures.extends)

pub returns-clause-continues : goal.returns-clause-continues
returns-clause-continues c =
    let d = c.self.inside in
    subst (λ (v : Derivation). Continues v (view c.member.new.self d.lines.items)) c.self.view_is
    (continues_by_terms (view_of d) c.member.new.self c.self.invariant.ids c.member.ensures.extends)
