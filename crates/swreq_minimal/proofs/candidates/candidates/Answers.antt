use Rattle.std.proofs.Common.{◌≡◌, subst, sym, length, slice_get, ℕ, List, Some}
use Rattle.std.proofs.lemmas.Result.{IfOk-weaker}
use Rattle.swreq_machine.specs.swreq_derive.declared.known.Params.{Params}
use Rattle.swreq_machine.specs.swreq_rule.declared.rules.Rule.{Rule}
use Rattle.swreq_machine.specs.swreq_complete.Complete.{IsComplete}
use Rattle.swreq_machine.specs.swreq_complete.Reduced.{IsReduced}
use Rattle.swreq_machine.specs.swreq_symbols.Vanishing.{Links}
use Rattle.swreq_machine.specs.swreq_valid.Plans.{listed}
use Rattle.swreq_machine.specs.swreq_world.ByTable.{world_by}
use Rattle.swreq_minimal.specs.OfParams.{AreOfParams}
use Rattle.swreq_minimal.specs.Sorted.{IsListOfFirstRules}
use Rattle.swreq_minimal.proofs.Collecting.{are_candidates}
use Rattle.swreq_minimal.proofs.candidates.candidates.Goals as goal

pub collect-requires : goal.collect-requires
collect-requires c =
    subst (λ (z : List Rule). (k : ℕ) (rule : Rule) → slice_get z k ≡ Some rule → IsReduced (Links c.rules-rules.result.now) rule)
    (sym c.deref.ensures.value) c.in_ok-system.ensures.system.each

pub returns-clause-candidates : goal.returns-clause-candidates
returns-clause-candidates c list is ended =
    let w = world_by c.args.table.now c.args.world.now in
    let x = c.args.world.now.lexicon in
    let system = c.in_ok-system.system.items in
    let new = c.collect.new.table in
    IfOk-weaker c.collect.result _ _ (λ v said.
    are_candidates w c.requires.closed c.args.machine.now list is
    (subst IsComplete c.rules-rules.ensures c.in_ok-system.ensures.complete) system
    (subst (λ (z : List Rule). AreOfParams (Links z) z (length z) system) c.rules-rules.ensures c.in_ok-system.ensures.system) ended
    (listed new v.items)
    (subst (λ (z : List Rule). IsListOfFirstRules x z c.args.machine.now.params system (length system) (listed new v.items))
    c.rules-rules.ensures
    (subst (λ (z : Params). IsListOfFirstRules x c.rules-rules.result.now z system (length system) (listed new v.items)) c.params.ensures
    (subst (λ (z : List Rule). IsListOfFirstRules x c.rules-rules.result.now c.params.result z (length z) (listed new v.items))
    c.deref.ensures.value said))))
    c.collect.ensures.said
