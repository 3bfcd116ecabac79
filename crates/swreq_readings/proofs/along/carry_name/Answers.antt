use Rattle.std.proofs.Common.{subst}
use Rattle.swreq_derive.specs.swreq_param.Tables.{term_at}
use Rattle.swreq_derivation.{specs.UnderWay.{AreStatedEqual}, proofs.DerivationLemmas.{continues_anyway, continues_if, continues_then}}
use Rattle.swreq_readings.proofs.ReadingLemmas.{equal_ids_still, term_still}
use Rattle.swreq_readings.proofs.along.carry_name.Goals as goal

pub add_same_name-requires-clause-equal : goal.add_same_name-requires-clause-equal
add_same_name-requires-clause-equal c =
    equal_ids_still c.args.derivation.now c.carry_bound.new.derivation c.in_ok-carry_bound.ensures.continues.grows c.args.from c.args.to
    c.requires.equal

pub returns-clause-name : goal.returns-clause-name
returns-clause-name c = (
  c.declarer-p.result,
  c.declarer-p.ensures.declares,
  c.in_ok-add_same_name.ensures.continues.grows.stays _ c.in_ok-carry_bound.ensures.conforms,
)

pub returns-clause-equal : goal.returns-clause-equal
returns-clause-equal c =
    let s = c.args.derivation.now in
    let u = c.carry_bound.new.derivation in
    let g = c.in_ok-carry_bound.ensures.continues.grows in
    let v = c.add_same_name.new.derivation in
    subst (λ z. AreStatedEqual v z (term_at s.table c.args.members.1)) (term_still s u g c.args.members.0 c.requires.first.0)
    (subst (λ z. AreStatedEqual v (term_at u.table c.args.members.0) z)
    (term_still s u g c.args.members.1 c.requires.second.0) c.in_ok-add_same_name.ensures.equal)

pub returns-clause-continues : goal.returns-clause-continues
returns-clause-continues c =
    continues_then (continues_anyway c.in_ok-carry_bound.ensures.continues) (continues_if (λ b f. (
      _,
      f.associated c.declarer-p.ensures.declares.0 _ c.declarer-p.ensures.declares.1,
    )) c.in_ok-add_same_name.ensures.continues)

pub returns-in_err-add_same_name-clause-continues : goal.returns-in_err-add_same_name-clause-continues
returns-in_err-add_same_name-clause-continues c =
    continues_then (continues_anyway c.in_ok-carry_bound.ensures.continues) (continues_if (λ b f. (
      _,
      f.associated c.declarer-p.ensures.declares.0 _ c.declarer-p.ensures.declares.1,
    )) c.in_err-add_same_name.ensures.continues)
