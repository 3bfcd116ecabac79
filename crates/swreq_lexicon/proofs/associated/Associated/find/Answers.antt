use Rattle.std.proofs.Common.{Some, Contains, position, sym, ap, subst, ◌∙◌, arith}
use Rattle.std.specs.Option.{option_map}
use Rattle.std.proofs.lemmas.Option.{slice_get_within}
use Rattle.swreq_lexicon.specs.Lexicons.{is_pair, assoc_at}
use Rattle.swreq_lexicon.specs.contracts.associated.AssocKeyOrd.TheImpl.{cmp-value}
use Rattle.swreq_rank.proofs.Rising.{rising_from_sorted}
use Rattle.swreq_lexicon.proofs.PairKeys.{root_at, other_at, nowhere}
use Rattle.swreq_lexicon.proofs.associated.Associated.find.Goals as goal

pub returns-in-Some : goal.returns-in-Some
returns-in-Some c =
    let p = c.args.protocol in
    let a = c.args.name in
    sym (ap (option_map assoc_at) (ap (position (is_pair p a)) (sym c.self.view_is)
    ∙ root_at c.self.inside.ranked (rising_from_sorted cmp-value.it c.self.inside.ranked c.items-keys.ensures.sorted) p a
    c.in-Some.rank (c.in-Some.ensures ∙ ap Some c.of.ensures)))

pub overflow_cast-result-in-None : goal.overflow_cast-result-in-None
overflow_cast-result-in-None c =
    let within = slice_get_within c.self.inside.ranked c.in_ok-rank-in-None.rank c.of-in-None.result c.in_ok-rank-in-None.ensures in
    let few = c.self.invariant.1 in
    omega (arith, within, few)

pub returns-in_ok-rank-in-None : goal.returns-in_ok-rank-in-None
returns-in_ok-rank-in-None c =
    let p = c.args.protocol in
    let a = c.args.name in
    sym (ap (option_map assoc_at) (ap (position (is_pair p a)) (sym c.self.view_is)
    ∙ other_at c.self.inside.ranked (rising_from_sorted cmp-value.it c.self.inside.ranked c.items-keys.ensures.sorted) p a
    c.in_ok-rank-in-None.rank (λ h. c.in-None.ensures (subst (Contains c.self.inside.ranked) (sym c.of.ensures) h))
    (c.in_ok-rank-in-None.ensures ∙ ap Some c.of-in-None.ensures)))

pub returns-in_err-rank-in-None : goal.returns-in_err-rank-in-None
returns-in_err-rank-in-None c =
    let p = c.args.protocol in
    let a = c.args.name in
    c.from_residual.ensures
    ∙ sym (ap (option_map assoc_at) (ap (position (is_pair p a)) (sym c.self.view_is)
    ∙ nowhere c.self.inside.ranked (rising_from_sorted cmp-value.it c.self.inside.ranked c.items-keys.ensures.sorted) p a
    (λ h. c.in-None.ensures (subst (Contains c.self.inside.ranked) (sym c.of.ensures) h))
    (λ h. c.in_err-rank-in-None.ensures (subst (Contains c.self.inside.ranked) (sym c.of-in-None.ensures) h))))
