use Rattle.std.{proofs.{Common.{◌≡◌, ◌∙◌, sym, subst, refl}, lemmas.Option.{MatchOption-at_some}}, specs.Option.{IfSome}}
use Rattle.swreq_complete.specs.{swreq_path.{declared.paths.Path.{Path}, Paths.{HasTarget}}, Alike.{ReduceAlike}}
use Rattle.swreq_complete.proofs.swreq_path.Leading.{one_end}
use Rattle.swreq_births.{specs.Systems.{rules_at}, proofs.{Headed.{all_at, all_there}, Alike.{both_as}}}
use Rattle.swreq_births.proofs.unfolding.link.Goals as goal

pub walk_along-requires-clause-path : goal.walk_along-requires-clause-path
walk_along-requires-clause-path c =
    let b = c.args.history.now in
    let all = all_at b c.all_of-at.result c.args.scope.system c.all_rules-rules.result.now c.requires.scope.system c.all_of-at.ensures
    c.all_rules-rules.ensures in
    let target = MatchOption-at_some (ReduceAlike c.all_rules-rules.result.now c.args.from.now c.args.to.now → ⊥)
    (λ (p : Path). HasTarget c.all_rules-rules.result.now p c.args.to.now)
    c.in-Some.path c.in-Some.is c.in_ok-path_between.ensures.target in record {
      rules = all_there b c.all_of-at.result c.args.scope.system c.requires.scope.system all;
      end = c.args.to.now;
      leads = subst (λ z. HasTarget z c.in-Some.path c.args.to.now) (c.all_rules-rules.ensures ∙ sym all.taken) target;
    }

pub returns-clause-both : goal.returns-clause-both
returns-clause-both c =
    let rules = rules_at c.args.history.now c.args.scope.system in
    let path = c.in-Some.path in
    let all = all_at c.args.history.now _ c.args.scope.system _ c.requires.scope.system c.all_of-at.ensures c.all_rules-rules.ensures in
    let walked = c.in_ok-walk_along-in-Some.ensures in
    let target = MatchOption-at_some (ReduceAlike c.all_rules-rules.result.now c.args.from.now c.args.to.now → ⊥)
    (λ (p : Path). HasTarget c.all_rules-rules.result.now p c.args.to.now)
    path c.in-Some.is c.in_ok-path_between.ensures.target in
    let start : path.start ≡ c.args.from.now = subst (λ o. IfSome o
    (λ (p : Path). p.start ≡ c.args.from.now)) c.in-Some.is c.in_ok-path_between.ensures.start in
    let end = one_end rules path.steps path.start _ _
    (subst (λ z. HasTarget z path c.in_ok-walk_along-in-Some.field-0) all.taken walked.target)
    (subst (λ z. HasTarget z path c.args.to.now) c.all_rules-rules.ensures target) in
    both_as c.args.history.now.alphabet c.walk_along.new.derivation _ _ _ _ _ _ refl start end walked.both
