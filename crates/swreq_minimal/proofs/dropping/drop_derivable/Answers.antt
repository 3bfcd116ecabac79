use Rattle.std.proofs.Common.{◌≡◌, ◌-◌, arith, length}
use Rattle.std.proofs.lemmas.List.{length-map}
use Rattle.std.proofs.lemmas.Result.{on_ok_weaker}
use Rattle.swreq_list_rules.specs.Settings.{facts_in, params_in, plan_in, said_in, says_in}
use Rattle.swreq_minimal.specs.Passed.{IsLeftWithout}
use Rattle.swreq_minimal.proofs.Inserting.{any}
use Rattle.swreq_minimal.proofs.Passing.{all_passed, last_stays}
use Rattle.swreq_minimal.proofs.Telling.{out_of_memory_at_once, tells_none}
use Rattle.swreq_minimal.proofs.dropping.drop_derivable.Goals as goal

-- ---- one or none

pub returns-then-last-eq0-clause-leaves : goal.returns-then-last-eq0-clause-leaves
returns-then-last-eq0-clause-leaves g c =
    let s = c.args.setting.now in
    let all = said_in s c.args.left.now.items in
    let n : length all ≡ length c.args.left.now.items = length-map c.args.left.now.items (says_in s) in
    let zero = c.if-last-eq0.true in
    let e : 0 ≡ length all - 1 = omega (arith, c.saturating_sub-last.ensures, c.len.ensures, n, zero) in
    all_passed (facts_in s) (params_in s) all all
    (last_stays (facts_in s) (params_in s) 0 all (says_in s any) e c.requires.last)

pub returns-then-last-eq0-clause-tells : goal.returns-then-last-eq0-clause-tells
returns-then-last-eq0-clause-tells g c =
    let s = c.args.setting.now in
    tells_none s.limits (plan_in s) (IsLeftWithout (facts_in s) (params_in s) (said_in s c.args.left.now.items))
    (g.W.Watch.told c.args.watch.now)

-- ---- more than one

pub returns-in_err-rules-clause-tells : goal.returns-in_err-rules-clause-tells
returns-in_err-rules-clause-tells g c =
    let s = c.args.setting.now in
    out_of_memory_at_once s (IsLeftWithout (facts_in s) (params_in s) (said_in s c.args.left.now.items)) c.from_residual.result
    (g.W.Watch.told c.args.watch.now) c.from_residual.ensures.1

pub returns-clause-leaves : goal.returns-clause-leaves
returns-clause-leaves g c =
    let s = c.args.setting.now in
    let all = said_in s c.args.left.now.items in
    let last = c.saturating_sub-last.result in
    let n : length all ≡ length c.args.left.now.items = length-map c.args.left.now.items (says_in s) in
    let e : last ≡ length all - 1 = omega (arith, c.saturating_sub-last.ensures, c.len.ensures, n) in
    on_ok_weaker c.drop_in.result (λ leaves.
    all_passed (facts_in s) (params_in s) all (said_in s c.drop_in.new.left.items)
    (leaves all (omega (arith, e)) (last_stays (facts_in s) (params_in s) last all (says_in s any) e c.requires.last)))
    c.drop_in.ensures.leaves

pub returns-clause-tells : goal.returns-clause-tells
returns-clause-tells g c =
    let s = c.args.setting.now in
    let all = said_in s c.args.left.now.items in
    let last = c.saturating_sub-last.result in
    let n : length all ≡ length c.args.left.now.items = length-map c.args.left.now.items (says_in s) in
    let e : last ≡ length all - 1 = omega (arith, c.saturating_sub-last.ensures, c.len.ensures, n) in
    c.drop_in.ensures.tells all (omega (arith, e))
    (last_stays (facts_in s) (params_in s) last all (says_in s any) e c.requires.last)
