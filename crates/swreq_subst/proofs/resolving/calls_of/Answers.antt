use Rattle.std.proofs.Common.{◌≡◌, List, [], map, take, ◌+◌, sym, subst}
use Rattle.std.proofs.lemmas.List.{take_all}
use Rattle.swreq_resolve.specs.swreq_decl.declared.skeleton.CallDecl.{CallDecl}
use Rattle.swreq_print.proofs.swreq_param.Growing.{onward}
use Rattle.swreq_subst.specs.Calls.{IsCallIn, TermCall, call_by}
use Rattle.swreq_subst.specs.Refusals.{of_call}
use Rattle.swreq_subst.specs.Saying.{OneByOne, SayCalls, SaysCall}
use Rattle.swreq_subst.proofs.Named.{known_next, meant_next, next_one}
use Rattle.swreq_subst.proofs.Staying.{calls_in_stay, calls_stay}
use Rattle.swreq_subst.proofs.Steps.{nothing_of_each}
use Rattle.swreq_subst.proofs.resolving.calls_of.Goals as goal

pub call_of-requires : goal.call_of-requires
call_of-requires c =
    subst (λ (d : CallDecl). of_call c.args.words.now.world.now c.args.words.now.text.now d ≡ []) (sym c.index-calls-k.is)
    (nothing_of_each (of_call c.args.words.now.world.now c.args.words.now.text.now) c.args.calls.now c.loop-k.k c.index-calls-k.result
    c.requires c.loop-k-test.true)

pub loop-k-preserved : goal.loop-k-preserved
loop-k-preserved c =
    let first = c.args.table.now in
    let old = c.loop-k.table in
    let new = c.call_of.new.table in
    let w = c.args.words.now.world.now in
    let text = c.args.words.now.text.now in
    let i = c.loop-k.invariant in
    let more = c.call_of.ensures.extends in
    let found = c.loop-k.found.items in
    let call = c.in_ok-call.call in
    let all = c.push.new.self.items in
    record {
      extends = onward first old new i.extends more;
      say = subst (λ (z : List TermCall). OneByOne (SaysCall w text) z (take (c.loop-k.k + 1) c.args.calls.now))
          (sym (meant_next (call_by old) (call_by new) found all call (calls_stay old new more w found i.known) c.in_ok-push.ensures.items))
          (next_one (SaysCall w text) (map (call_by old) found) c.args.calls.now c.loop-k.k (call_by new call) c.index-calls-k.result
          c.loop-k-test.true c.index-calls-k.is i.say c.in_ok-call.ensures.says);
      known = known_next (IsCallIn new w) found all call
          (calls_in_stay old new more w found i.known) c.in_ok-call.ensures.known c.in_ok-push.ensures.items;
    }

pub returns-clause-say : goal.returns-clause-say
returns-clause-say c =
    let words = c.args.words.now in
    subst (λ (z : List CallDecl). SayCalls words.world.now words.text.now (map (call_by c.loop-k.table) c.loop-k.found.items) z)
    (take_all c.loop-k.k c.args.calls.now c.loop-k-test.false) c.loop-k.invariant.say

pub returns-in_err-call-clause-extends : goal.returns-in_err-call-clause-extends
returns-in_err-call-clause-extends c =
    onward c.args.table.now c.loop-k.table c.call_of.new.table c.loop-k.invariant.extends c.call_of.ensures.extends
