use Rattle.std.proofs.Common.{◌≡◌, ◌∙◌, List, ap, subst, sym}
use Rattle.swreq_machine.specs.swreq_param.{Tables.{IsOf, term_at}, Terms.{Term, Term.{Member}}}
use Rattle.swreq_machine.specs.swreq_derive.Derivation.{TermRequirement.{Conforms}, TermStatement.{Requires}}
use Rattle.swreq_derivation.{specs.UnderWay.{States}, proofs.DerivationLemmas.{continues_anyway, continues_if, continues_then}}
use Rattle.swreq_readings.proofs.ReadingLemmas.{equal_ids_still, is_still, term_still}
use Rattle.swreq_explain.proofs.SideLemmas.{given_by}
use Rattle.swreq_explain.proofs.validity.validate_member.Goals as goal

pub add_same_bound-requires-clause-equal : goal.add_same_bound-requires-clause-equal
add_same_bound-requires-clause-equal c =
    equal_ids_still c.args.derivation.now c.member.new.self c.in_ok-v.ensures.continues.grows c.args.base.itself c.args.base.word
    c.requires.base

pub add_member-requires-clause-conforms : goal.add_member-requires-clause-conforms
add_member-requires-clause-conforms c =
    let id = c.args.base.itself in
    let u = c.member.new.self in
    let v = c.add_same_bound.new.derivation in
    let of = is_still c.args.derivation.now u c.in_ok-v.ensures.continues.grows id c.requires.base.0 in
    subst (λ (z : List Term). IsOf z id × States v (Requires (Conforms (term_at z id) c.args.named.proto)))
    (sym c.in_ok-add_same_bound.ensures.table) (of, c.in_ok-add_same_bound.ensures.conforms)

pub add_member-requires-clause-member : goal.add_member-requires-clause-member
add_member-requires-clause-member c =
    let id = c.args.base.itself in
    let u = c.member.new.self in
    let base = term_still c.args.derivation.now u c.in_ok-v.ensures.continues.grows id c.requires.base.0 in
    subst (λ (z : List Term). IsOf z c.in_ok-v.v × (term_at z c.in_ok-v.v ≡ Member (term_at z id) c.args.step))
    (sym c.in_ok-add_same_bound.ensures.table)
    (c.in_ok-v.ensures.is_of, c.in_ok-v.ensures.stands ∙ ap (λ z. Member z c.args.step) (sym base))

pub returns-clause-continues : goal.returns-clause-continues
returns-clause-continues c =
    let first = continues_then c.in_ok-v.ensures.continues c.in_ok-add_same_bound.ensures.continues in
    continues_then (continues_anyway first)
    (continues_if (given_by c.args.reader _ _ c.args.step c.args.named c.requires.given) c.in_ok-add_member.ensures.continues)

pub returns-in_err-add_member-clause-continues : goal.returns-in_err-add_member-clause-continues
returns-in_err-add_member-clause-continues c =
    let first = continues_then c.in_ok-v.ensures.continues c.in_ok-add_same_bound.ensures.continues in
    continues_then (continues_anyway first)
    (continues_if (given_by c.args.reader _ _ c.args.step c.args.named c.requires.given) c.in_err-add_member.ensures.continues)

pub returns-in_err-add_same_bound-clause-continues : goal.returns-in_err-add_same_bound-clause-continues
returns-in_err-add_same_bound-clause-continues c =
    continues_anyway (continues_then c.in_ok-v.ensures.continues c.in_err-add_same_bound.ensures.continues)
