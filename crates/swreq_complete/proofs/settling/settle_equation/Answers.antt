use Rattle.std.proofs.Common.{inl, refl, ◌∙◌, subst, List}
use Rattle.std.proofs.lemmas.Result.{MatchResult-weaker, err_from_is_err_and}
use Rattle.swreq_rule.specs.declared.rules.Rule.{Rule}
use Rattle.swreq_rule.specs.declared.rules.Birth.TheVariants.{Given}
use Rattle.swreq_complete.specs.Progress.{Settles}
use Rattle.swreq_complete.proofs.Telling.{grown_none, does_more, stops_more}
use Rattle.swreq_complete.proofs.settling.settle_equation.Goals as goal

pub returns-in_err-set : goal.returns-in_err-set
returns-in_err-set g c =
    let p = err_from_is_err_and c.from_residual.result c.from_residual.ensures.1 in
    rw (p.1, p.2) (c.args.rules.now, inl refl, grown_none c.args.rules.now (g.W.Watch.told c.args.watch.now))

pub returns : goal.returns
returns g c =
    let set = c.set.new.self in
    let l = c.in_ok-set.ensures.left ∙ c.symbols.ensures in
    let r = c.in_ok-set.ensures.right ∙ c.symbols-2.ensures in
    let settles : (t : List Rule) → Settles c.args.rules.now t (Given c.args.number) set.left.items set.right.items
    → Settles c.args.rules.now t (Given c.args.number) c.args.equation.now.0 c.args.equation.now.1 =
    (λ t s. subst (λ x. Settles c.args.rules.now t (Given c.args.number) x c.args.equation.now.1) l
    (subst (λ x. Settles c.args.rules.now t (Given c.args.number) set.left.items x) r s)) in
    MatchResult-weaker c.settle_sides.result c.settle_sides.ensures (λ x. does_more c.args.limits _ _ _ _ _ _ settles)
    (λ s. stops_more c.args.limits _ _ _ _ _ _ settles s)
