use Rattle.std.proofs.Common.{[], sym, subst, take, get_or, Contains, IfSome}
use Rattle.std.proofs.lemmas.List.{take_all}
use Rattle.std.proofs.lemmas.List.Elements.{Contains-get_or}
use Rattle.swreq_machine.proofs.swreq_lemmas.Members.{no_member}
use Rattle.swreq_candidates.specs.swreq_canonical.Generators.{Takes}
use Rattle.swreq_candidates.specs.swreq_canonical.Generators.Takes.{ended}
use Rattle.swreq_list_rules.specs.ListRules.{AreOfList}
use Rattle.swreq_list_rules.specs.Settings.{facts_in, params_in, plan_in, said_in}
use Rattle.swreq_minimal.specs.Passed.{IsTakenBefore}
use Rattle.swreq_minimal.proofs.Inserting.{any}
use Rattle.swreq_minimal.proofs.Passing.{next_taken, taken_before}
use Rattle.swreq_minimal.proofs.Telling.{fails_next, out_of_memory_at_once, stopped, tells_next, tells_none}
use Rattle.swreq_minimal.proofs.taking.generators.Goals as goal

pub returns-in_err-rules-clause-tells : goal.returns-in_err-rules-clause-tells
returns-in_err-rules-clause-tells g c =
    let s = c.args.setting.now in
    out_of_memory_at_once s (IsTakenBefore (facts_in s) (params_in s) (said_in s c.args.candidates.now)) c.from_residual.result
    (g.W.Watch.told c.args.watch.now) c.from_residual.ensures.1

pub loop-k-init : goal.loop-k-init
loop-k-init g c =
    let s = c.args.setting.now in
    record {
      takes = subst (λ z. Takes (facts_in s) (params_in s) [] [] (said_in s z)) (sym c.new-taken.ensures.items) ended;
      rules = subst (λ z. IfSome c.in_ok-rules.rules (AreOfList s (said_in s z))) (sym c.new-taken.ensures.items) c.in_ok-rules.ensures;
      known = λ r h. no_member r (subst (λ z. Contains z r) c.new-taken.ensures.items h);
      told = tells_none s.limits (plan_in s) (IsTakenBefore (facts_in s) (params_in s) (said_in s c.args.candidates.now))
          (g.W.Watch.told c.args.watch.now);
    }

pub take_underivable-requires-clause-candidate : goal.take_underivable-requires-clause-candidate
take_underivable-requires-clause-candidate g c =
    let candidates = c.args.candidates.now in
    c.requires (get_or candidates c.loop-k.k any) (Contains-get_or candidates c.loop-k.k any c.loop-k-test.true)

pub returns-in_err-rules-2-clause-tells : goal.returns-in_err-rules-2-clause-tells
returns-in_err-rules-2-clause-tells g c =
    let s = c.args.setting.now in
    let candidates = c.args.candidates.now in
    let out = said_in s c.loop-k.taken.items in
    let P = IsTakenBefore (facts_in s) (params_in s) (said_in s candidates) in
    let before = g.W.Watch.told c.args.watch.now in
    let now = g.W.Watch.told c.take_underivable.new.watch in
    let failed = c.in_err-rules-2.field-0.0 in
    stopped s P c.from_residual-in_err-rules-2.result failed before now c.from_residual-in_err-rules-2.ensures.1
    (fails_next s.limits (plan_in s) P out
    (taken_before (facts_in s) (params_in s) s.checked.text.table.now candidates c.loop-k.k any c.loop-k-test.true out
    c.loop-k.invariant.takes)
    before (g.W.Watch.told c.loop-k.watch) now c.loop-k.invariant.told failed c.in_err-rules-2.ensures.tells)

pub loop-k-preserved : goal.loop-k-preserved
loop-k-preserved g c =
    let s = c.args.setting.now in
    let f = facts_in s in
    let ps = params_in s in
    let candidates = c.args.candidates.now in
    let k = c.loop-k.k in
    let out = said_in s c.loop-k.taken.items in
    record {
      takes = next_taken f ps s.checked.text.table.now candidates k any c.loop-k-test.true (said_in s c.take_underivable.new.taken.items)
          (c.in_ok-rules-2.ensures.takes (said_in s (take k candidates)) c.loop-k.invariant.takes);
      known = c.in_ok-rules-2.ensures.known;
      rules = c.in_ok-rules-2.ensures.rules;
      told = tells_next s.limits (plan_in s) (IsTakenBefore f ps (said_in s candidates)) out
          (taken_before f ps s.checked.text.table.now candidates k any c.loop-k-test.true out c.loop-k.invariant.takes)
          (g.W.Watch.told c.args.watch.now) (g.W.Watch.told c.loop-k.watch) (g.W.Watch.told c.take_underivable.new.watch)
          c.loop-k.invariant.told c.in_ok-rules-2.ensures.tells;
    }

pub returns-clause-takes : goal.returns-clause-takes
returns-clause-takes g c =
    let s = c.args.setting.now in
    subst (λ z. Takes (facts_in s) (params_in s) [] (said_in s z) (said_in s c.loop-k.taken.items))
    (take_all c.loop-k.k c.args.candidates.now c.loop-k-test.false) c.loop-k.invariant.takes
