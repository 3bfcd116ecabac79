use Rattle.std.proofs.Common.{◌≡◌, ◌↔◌, ◌+◌, ◌<◌, IsTrue, suc, length, List, map, get_or, sym, subst, arith}
use Rattle.std.proofs.lemmas.List.{length-map}
use Rattle.std.proofs.lemmas.List.Elements.{All-weaker}
use Rattle.swreq_print.proofs.swreq_param.Growing.{onward, unchanged}
use Rattle.swreq_machine.specs.swreq_param.Tables.{IsOf, term_at}
use Rattle.swreq_machine.specs.swreq_param.Terms.{Term}
use Rattle.swreq_machine.specs.swreq_derive.Derivation.{TermRequirement}
use Rattle.swreq_machine.specs.swreq_derive.Derivation.Source.{Written}
use Rattle.swreq_machine.specs.swreq_derive.Derivation.TermStatement.{Requires}
use Rattle.swreq_machine.specs.swreq_derive.Facts.{generic_params, requirement_of}
use Rattle.swreq_machine.specs.swreq_lowering.Heads.{IsOver}
use Rattle.swreq_machine.specs.swreq_symbols.Known.{IsTypeIn}
use Rattle.swreq_machine.proofs.swreq_symbols.Growing.{text_stays, world_stays}
use Rattle.swreq_machine.specs.Asked.{IsDerivable}
use Rattle.swreq_machine.specs.Machines.{IsMachineOf}
use Rattle.swreq_machine.specs.swreq_valid.Plans.{listed}
use Rattle.swreq_machine.specs.swreq_world.ByTable.{world_by}
use Rattle.swreq_machine.specs.swreq_world.FactsAt.{facts_of}
use Rattle.swreq_machine.specs.swreq_world.Worlds.{TextWorld}
use Rattle.swreq_subst.specs.Arguments.{place_of, requirement_with}
use Rattle.swreq_subst.specs.Failing.{AreFailingUpTo}
use Rattle.swreq_subst.proofs.Calling.{has_number, no_requirement}
use Rattle.swreq_subst.proofs.Numbering.{none_yet, noted}
use Rattle.swreq_subst.proofs.Staying.{types_in_stay, types_stay}
use Rattle.swreq_machine.proofs.swreq_lowering.Growing.{requirement_stays}
use Rattle.swreq_machine.proofs.swreq_symbols.Growing.{requirement_in_stays}
use Rattle.swreq_subst.proofs.failures.numbers_of.Goals as goal

pub loop-k-init : goal.loop-k-init
loop-k-init c =
    let old = c.args.table.now in
    let by = c.args.by.now in
    let w = world_by old by.world.now in
    let args = map (term_at old) by.args.now in
    let rs = listed old c.args.list.now in
    record {
      extends = unchanged old;
      failing = λ given h. subst (AreFailingUpTo (facts_of w) (Written (generic_params by.machine.now.params) given) by.params args rs 0)
          (sym c.new-numbers.ensures.items)
          (none_yet (facts_of w) (Written (generic_params by.machine.now.params) given) by.params args rs);
    }

pub holds-requires-clause-by : goal.holds-requires-clause-by
holds-requires-clause-by c =
    let old = c.args.table.now in
    let by = c.args.by.now in
    let more = c.loop-k.invariant.extends in
    record {
      text = text_stays old c.loop-k.table more by.world.now c.requires.by.text;
      args = types_in_stay old c.loop-k.table more by.world.now.lexicon by.args.now c.requires.by.args;
    }

pub holds-requires-clause-r : goal.holds-requires-clause-r
holds-requires-clause-r c =
    let old = c.args.table.now in
    let by = c.args.by.now in
    let r = get_or c.args.list.now c.loop-k.k no_requirement in
    let more = c.loop-k.invariant.extends in
    let known = c.requires.list c.loop-k.k no_requirement c.loop-k-test.true in (
      requirement_in_stays old c.loop-k.table more by.world.now.lexicon r known.0,
      subst (IsOver (λ g. place_of by.params g < length by.args.now))
          (sym (requirement_stays old c.loop-k.table r more known.0.0)) known.1,
    )

pub loop-k-preserved : goal.loop-k-preserved
loop-k-preserved c =
    let old = c.args.table.now in
    let mid = c.loop-k.table in
    let by = c.args.by.now in
    let v = world_by old by.world.now in
    let m = by.machine.now in
    let p = by.params in
    let types = by.args.now in
    let k = c.loop-k.k in
    let more = c.loop-k.invariant.extends in
    let r = get_or c.args.list.now k no_requirement in
    let rs = listed old c.args.list.now in
    let b = c.in_ok-holds.holds in
    let known = (c.requires.list k no_requirement c.loop-k-test.true).0 in
    let same = world_stays old mid more by.world.now c.requires.by.text.table in
    let args =
    types_stay old mid more types (All-weaker (IsTypeIn old by.world.now.lexicon) (IsOf old) (λ t h. h.0) types c.requires.by.args) in
    let required = requirement_stays old mid r more known.0 in
    let here = subst (λ (u : TextWorld). (given : List TermRequirement) → IsMachineOf u given m
    → IsTrue b ↔ IsDerivable u m given (Requires (requirement_with p (map (term_at mid) types) (requirement_of mid r))))
    same c.in_ok-holds.ensures.holds in
    let typed = subst (λ (ts : List Term). (given : List TermRequirement) → IsMachineOf v given m
    → IsTrue b ↔ IsDerivable v m given (Requires (requirement_with p ts (requirement_of mid r)))) args here in
    let answer = subst (λ (q : TermRequirement). (given : List TermRequirement) → IsMachineOf v given m
    → IsTrue b ↔ IsDerivable v m given (Requires (requirement_with p (map (term_at old) types) q))) required typed in
    let next : suc k ≡ k + 1 = omega arith in
    record {
      extends = onward old mid c.holds.new.table more c.holds.ensures.extends;
      failing = λ given h. subst (λ n. AreFailingUpTo (facts_of v) (Written (generic_params m.params) given) p
          (map (term_at old) types) rs n c.note.new.numbers.items) next
          (noted (facts_of v) (Written (generic_params m.params) given) p (map (term_at old) types) rs k
          (k + 1) c.loop-k.numbers.items c.note.new.numbers.items (requirement_of old r) b
          (c.loop-k.invariant.failing given h) (has_number old c.args.list.now k no_requirement c.loop-k-test.true) (sym next)
          (answer given h) c.in_ok-note.ensures);
    }

pub returns-clause-failing : goal.returns-clause-failing
returns-clause-failing c given h =
    let old = c.args.table.now in
    let by = c.args.by.now in
    let rs = listed old c.args.list.now in
    let low = c.loop-k-test.false in
    let high = c.loop-k.auto.k-end in
    let last : c.loop-k.k ≡ length rs = omega (arith, length-map c.args.list.now (requirement_of old), low, high) in
    subst (λ n. AreFailingUpTo (facts_of (world_by old by.world.now)) (Written (generic_params by.machine.now.params) given) by.params
    (map (term_at old) by.args.now) rs n c.loop-k.numbers.items) last
    (c.loop-k.invariant.failing given h)

pub returns-clause-extends : goal.returns-clause-extends
returns-clause-extends c = c.loop-k.invariant.extends
