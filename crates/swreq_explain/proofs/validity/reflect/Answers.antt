use Rattle.swreq_derivation.{proofs.DerivationLemmas.{continues_anyway, continues_then}, specs.UnderWay.{States}}
use Rattle.std.proofs.Common.{OnOk, subst}
use Rattle.swreq_machine.specs.swreq_derive.Derivation.{TermRequirement.{Equals}, TermStatement.{Requires}}
use Rattle.swreq_explain.proofs.validity.reflect.Goals as goal

pub returns-clause-continues : goal.returns-clause-continues
returns-clause-continues c = continues_then c.in_ok-t.ensures.continues (continues_anyway c.add_reflex.ensures.continues)

pub returns-clause-says : goal.returns-clause-says
returns-clause-says c =
    subst (λ z. OnOk c.add_reflex.result (States c.add_reflex.new.derivation (Requires (Equals z z)))) c.in_ok-t.ensures.stands
    c.add_reflex.ensures.equal
