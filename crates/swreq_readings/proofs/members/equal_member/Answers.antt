use Rattle.std.proofs.{Common.{◌≡◌, sym, ap, ap₂, subst, ◌∙◌}, lemmas.Result.{on_ok_weaker}}
use Rattle.swreq_derive.specs.swreq_param.{declared.ids.{NameId.{NameId}, Step.{Step, TheVariants.{Name}}}, Tables.{term_at}}
use Rattle.swreq_derive.specs.swreq_param.Terms.Term.{Member}
use Rattle.swreq_readings.specs.Readable.{IsGiven, IsOfStep}
use Rattle.swreq_readings.proofs.ReadingLemmas.{equal_as, equal_ids_now, equal_ids_still, given_still, is_still, term_still}
use Rattle.swreq_derivation.proofs.DerivationLemmas.{continues_anyway, continues_if, continues_then, grows_then}
use Rattle.swreq_readings.proofs.members.equal_member.Goals as goal

pub bind-requires-clause-sides : goal.bind-requires-clause-sides
bind-requires-clause-sides c =
    let before = grows_then c.in_ok-plain.ensures.continues.grows c.in_ok-last.ensures.continues.grows in
    equal_ids_still _ _ (grows_then before c.in_ok-add_same_name.ensures.continues.grows) c.args.left c.args.right c.requires.equal

pub bind-requires-clause-given : goal.bind-requires-clause-given
bind-requires-clause-given c =
    let s = c.args.derivation.now in
    let n = c.add_same_name.new.derivation in
    let g = grows_then (grows_then c.in_ok-plain.ensures.continues.grows c.in_ok-last.ensures.continues.grows)
    c.in_ok-add_same_name.ensures.continues.grows in
    subst (λ (z : Step). IsGiven c.args.alphabet.now n (term_at n.table c.args.right) z c.args.named) c.in-Bound.is
    (subst (λ z. IsGiven c.args.alphabet.now n z c.args.step c.args.named) (sym (term_still s n g c.args.right c.requires.equal.1))
    (given_still c.args.alphabet.now s n g _ c.args.step c.args.named c.requires.given))

pub bind-requires-clause-members : goal.bind-requires-clause-members
bind-requires-clause-members c =
    equal_ids_now _ _ c.in_ok-add_same_name.ensures.continues.grows c.in_ok-plain.plain c.in_ok-last.last
    (is_still _ _ c.in_ok-last.ensures.continues.grows c.in_ok-plain.plain c.in_ok-plain.ensures.is_of) c.in_ok-last.ensures.is_of
    c.in_ok-add_same_name.ensures.equal

pub returns-in-Name-clause-equal : goal.returns-in-Name-clause-equal
returns-in-Name-clause-equal c =
    let s = c.args.derivation.now in
    let plain = c.in_ok-plain.ensures in
    let last = c.in_ok-last.ensures in
    let w : IsOfStep (Name c.in-Name.field-0) c.requires.given.0 c.args.named = subst
    (λ (z : Step). IsOfStep z c.requires.given.0 c.args.named) c.in-Name.is c.requires.given.1.1 in
    let x : c.args.step ≡ Name c.args.named.name = c.in-Name.is ∙ ap (λ (z : NameId). Name z) (sym w) in
    equal_as c.add_same_name.new.derivation _ _ _ _ (ap (λ (z : Step). Member (term_at s.table c.args.left) z) x
    ∙ sym (term_still _ _ last.continues.grows c.in_ok-plain.plain plain.is_of ∙ plain.stands)) (sym (last.stands
    ∙ ap (λ z. Member z (Name c.args.named.name)) (term_still _ _ plain.continues.grows c.args.right c.requires.equal.1)))
    c.in_ok-add_same_name.ensures.equal

pub returns-in-Name-clause-continues : goal.returns-in-Name-clause-continues
returns-in-Name-clause-continues c =
    continues_then (continues_anyway (continues_then c.in_ok-plain.ensures.continues c.in_ok-last.ensures.continues))
    (continues_if (λ b f. (_, f.associated c.requires.given.0 _ c.requires.given.1.0)) c.in_ok-add_same_name.ensures.continues)

pub returns-in-Bound-clause-equal : goal.returns-in-Bound-clause-equal
returns-in-Bound-clause-equal c =
    let plain = c.in_ok-plain.ensures in
    let last = c.in_ok-last.ensures in
    let name = c.in_ok-add_same_name.ensures.continues.grows in
    let g = grows_then (grows_then plain.continues.grows last.continues.grows) name in
    on_ok_weaker c.bind.result (equal_as c.bind.new.derivation _ _ _ _
    (ap₂ (λ y (z : Step). Member y z) (sym (term_still _ _ g c.args.left c.requires.equal.0)) c.in-Bound.is)
    (sym (term_still _ _ name c.in_ok-last.last last.is_of ∙ last.stands
    ∙ ap (λ z. Member z (Name c.args.named.name)) (term_still _ _ plain.continues.grows c.args.right c.requires.equal.1))))
    c.bind.ensures.equal

pub returns-in-Bound-clause-continues : goal.returns-in-Bound-clause-continues
returns-in-Bound-clause-continues c =
    continues_then (continues_anyway (continues_then c.in_ok-plain.ensures.continues c.in_ok-last.ensures.continues))
    (continues_then (continues_if (λ b f. (_, f.associated c.requires.given.0 _ c.requires.given.1.0))
    c.in_ok-add_same_name.ensures.continues) c.bind.ensures.continues)

pub returns-in_err-last-clause-continues : goal.returns-in_err-last-clause-continues
returns-in_err-last-clause-continues c = continues_anyway (continues_then c.in_ok-plain.ensures.continues c.in_err-last.ensures.continues)

pub returns-in_err-add_same_name-clause-continues : goal.returns-in_err-add_same_name-clause-continues
returns-in_err-add_same_name-clause-continues c =
    continues_then (continues_anyway (continues_then c.in_ok-plain.ensures.continues c.in_ok-last.ensures.continues))
    (continues_if (λ b f. (_, f.associated c.requires.given.0 _ c.requires.given.1.0)) c.in_err-add_same_name.ensures.continues)
