use Rattle.std.proofs.Common.{subst}
use Rattle.swreq_derive.specs.Derivation.{TermRequirement.{Conforms}, TermStatement.{Requires}}
use Rattle.swreq_derivation.{specs.UnderWay.{States}, proofs.DerivationLemmas.{continues_then}}
use Rattle.swreq_readings.proofs.ReadingLemmas.{goes_down, term_still}
use Rattle.swreq_readings.proofs.inheriting.inherit.Goals as goal

pub loop-subject-smaller : goal.loop-subject-smaller
loop-subject-smaller c =
    let (k, at) = c.in_ok-at.ensures.parent in
    goes_down c.args.alphabet.now c.loop-subject.at c.in_ok-at.at k at.0

pub returns-clause-name : goal.returns-clause-name
returns-clause-name c =
    let i = c.loop-subject.invariant in (
      c.loop-subject.at,
      c.declares.ensures.0 c.loop-subject-test.false,
      subst (λ z. States c.loop-subject.derivation (Requires (Conforms z c.loop-subject.at)))
          (term_still c.args.derivation.now c.loop-subject.derivation i.continues.grows c.args.subject c.requires.conforms.0)
          i.conforms.1,
    )

pub returns-in_err-at-clause-continues : goal.returns-in_err-at-clause-continues
returns-in_err-at-clause-continues c = continues_then c.loop-subject.invariant.continues c.in_err-at.ensures.continues
