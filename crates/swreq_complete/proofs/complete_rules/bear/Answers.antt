use Rattle.std.proofs.Common.{inl, inr, refl, sym, subst, List, Ok, Err}
use Rattle.swreq_rule.specs.declared.rules.Rule.{Rule}
use Rattle.swreq_complete.specs.Short.{IsBorneBy}
use Rattle.swreq_complete.proofs.Short.{borne_answer, borne_is_one, few_kept, passed_among}
use Rattle.swreq_complete.proofs.complete_rules.bear.Goals as goal

pub new-requires : goal.new-requires
new-requires c = few_kept c.args.limits c.base.inside.list c.settle_given.new.rules c.base.invariant.few c.in-Ok.ensures.kept

pub returns-in-Ok : goal.returns-in-Ok
returns-in-Ok c =
    let a = c.args in
    let p = subst (λ (rules : List Rule). IsBorneBy a.limits a.base a.given.now (Ok rules)) (sym c.new.ensures)
    (borne_answer a.limits a.given.now a.base c.base.inside.list _ _ c.settle_given.new.rules c.base.view_is c.in-Ok.ensures) in
    record { answer = p; only = borne_is_one a.limits a.base a.given.now (Ok c.new.result) p }

pub returns-in-Err-Limit : goal.returns-in-Err-Limit
returns-in-Err-Limit c =
    let a = c.args in
    let p = passed_among a.limits a.given.now a.base c.base.inside.list _ _ c.settle_given.new.rules c.base.view_is c.in-Err-Limit.which
    (rw c.in-Err-Limit.field-0-is at c.in-Err-Limit.ensures) c.passed_limit.result c.passed_limit.ensures in
    record { answer = p; only = borne_is_one a.limits a.base a.given.now (Err c.passed_limit.result) p }

pub returns : goal.returns
returns c = record { answer = tt; only = λ other q. inr (inl refl) }
