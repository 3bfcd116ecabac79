use Rattle.swreq_list_rules.specs.Settings.{facts_in, params_in, said_in}
use Rattle.swreq_minimal.proofs.Passing.{last_needed}
use Rattle.swreq_minimal.proofs.Telling.{IsOnTheWay, dropping_failed, dropping_told, stopped, taking_failed}
use Rattle.swreq_minimal.proofs.minimised.minimised_candidates.Goals as goal

pub returns-in_err-left-clause-tells : goal.returns-in_err-left-clause-tells
returns-in_err-left-clause-tells g c =
    let s = c.args.setting.now in
    let cs = said_in s c.args.candidates.now in
    let old = g.W.Watch.told c.args.watch.now in
    let new = g.W.Watch.told c.generators.new.watch in
    let failed = c.in_err-left.field-0.0 in
    stopped s (IsOnTheWay s cs) c.from_residual.result failed old new c.from_residual.ensures.1
    (taking_failed s cs old new failed c.in_err-left.ensures.tells)

pub drop_derivable-requires-clause-last : goal.drop_derivable-requires-clause-last
drop_derivable-requires-clause-last g c =
    last_needed (facts_in c.args.setting.now) (params_in c.args.setting.now) c.in_ok-left.ensures.takes

pub returns-in_err-drop_derivable-clause-tells : goal.returns-in_err-drop_derivable-clause-tells
returns-in_err-drop_derivable-clause-tells g c =
    let s = c.args.setting.now in
    let cs = said_in s c.args.candidates.now in
    let old = g.W.Watch.told c.args.watch.now in
    let mid = g.W.Watch.told c.generators.new.watch in
    let new = g.W.Watch.told c.drop_derivable.new.watch in
    let failed = c.in_err-drop_derivable.field-0.0 in
    stopped s (IsOnTheWay s cs) c.from_residual-in_err-drop_derivable.result failed old new
    c.from_residual-in_err-drop_derivable.ensures.1
    (dropping_failed s cs (said_in s c.in_ok-left.left.items) c.in_ok-left.ensures.takes old mid new c.in_ok-left.ensures.tells failed
    c.in_err-drop_derivable.ensures.tells)

pub returns-clause-minimised : goal.returns-clause-minimised
returns-clause-minimised g c = record {
  generators = said_in c.args.setting.now c.in_ok-left.left.items;
  takes = c.in_ok-left.ensures.takes;
  leaves = c.in_ok-drop_derivable.ensures.leaves;
}

pub returns-clause-tells : goal.returns-clause-tells
returns-clause-tells g c =
    let s = c.args.setting.now in
    let told = g.W.Watch.told in
    dropping_told s (said_in s c.args.candidates.now) (said_in s c.in_ok-left.left.items) c.in_ok-left.ensures.takes
    (told c.args.watch.now) (told c.generators.new.watch) (told c.drop_derivable.new.watch)
    c.in_ok-left.ensures.tells c.in_ok-drop_derivable.ensures.tells
