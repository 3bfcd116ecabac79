use Rattle.std.proofs.Common.{sym, subst, List}
use Rattle.std.proofs.lemmas.Result.{IfOk-weaker, MatchResult-weaker, err_from_is_err_and}
use Rattle.swreq_machine.specs.swreq_derive.Derivation.{TermRequirement}
use Rattle.swreq_machine.specs.swreq_derive.Facts.{generic_params}
use Rattle.swreq_machine.specs.swreq_symbols.Meaning.{facts_of, symbols_of}
use Rattle.swreq_machine.specs.swreq_world.ByTable.{world_by}
use Rattle.swreq_machine.specs.swreq_world.Worlds.{TextWorld}
use Rattle.swreq_machine.specs.swreq_valid.Protocols.{AreRulesOf}
use Rattle.swreq_machine.specs.Machines.{IsMachineOf, list_of}
use Rattle.swreq_machine.specs.swreq_valid.Plans.{AreKnown, listed}
use Rattle.swreq_machine.specs.swreq_valid.Rounds.{last_rules}
use Rattle.swreq_minimal.specs.Passed.{IsPassedOf}
use Rattle.swreq_machine.proofs.swreq_symbols.Growing.{text_stays, world_stays}
use Rattle.swreq_minimal.proofs.Telling.{wants_at_once}
use Rattle.swreq_minimal.proofs.Whole.{IsReadOffMachine, fails, is_canonical, is_independent, is_minimised, is_same, is_sorted, tells}
use Rattle.swreq_minimal.proofs.minimised.minimise.Goals as goal

-- ---- memory ran out where candidates were read off

pub returns-in_err-found-clause-failed : goal.returns-in_err-found-clause-failed
returns-in_err-found-clause-failed g c list is =
    let w = world_by c.args.table.now c.args.world.now in
    let params = c.args.machine.now.params in
    let p = err_from_is_err_and c.from_residual.result c.from_residual.ensures.1 in
    rw (p.1, p.2)
    (wants_at_once c.args.limits (list_of w (last_rules c.args.protocols.now.rounds) params)
    (IsPassedOf (symbols_of c.args.world.now.lexicon) (facts_of w) (generic_params params) list) (g.W.Watch.told c.args.watch.now))

pub returns-in_err-found-clause-world : goal.returns-in_err-found-clause-world
returns-in_err-found-clause-world g c =
    world_stays c.args.table.now c.candidates.new.table c.candidates.ensures.extends c.args.world.now c.requires.text.table

pub returns-in_err-found-clause-text : goal.returns-in_err-found-clause-text
returns-in_err-found-clause-text g c =
    text_stays c.args.table.now c.candidates.new.table c.candidates.ensures.extends c.args.world.now c.requires.text

-- ---- what the candidates are minimised over

pub invariant_of-text : goal.invariant_of-text
invariant_of-text g c = record {
  belong = ∣ text_stays c.args.table.now c.candidates.new.table c.candidates.ensures.extends c.args.world.now c.requires.text ∣₁;
}

pub invariant_of-checked : goal.invariant_of-checked
invariant_of-checked g c =
    subst (λ (z : TextWorld). AreRulesOf z (last_rules c.args.protocols.now.rounds))
    (sym (world_stays c.args.table.now c.candidates.new.table c.candidates.ensures.extends c.args.world.now c.requires.text.table))
    c.requires.protocols

pub minimised_candidates-requires : goal.minimised_candidates-requires
minimised_candidates-requires g c =
    subst (AreKnown c.candidates.new.table c.args.world.now.lexicon) (sym c.deref.ensures.value) c.in_ok-found.ensures.known

-- ---- what is left of them is the minimised list

pub returns : goal.returns
returns g c =
    let old = c.args.table.now in
    let new = c.candidates.new.table in
    let w = c.args.world.now in
    let protocols = last_rules c.args.protocols.now.rounds in
    let machine = c.args.machine.now in
    let found = listed new c.in_ok-found.found.items in
    let read : (list : List TermRequirement) → IsMachineOf (world_by old w) list machine
    → IsReadOffMachine old new w protocols machine list found = λ list is. record {
      text = c.requires.text;
      more = c.candidates.ensures.extends;
      complete = rw c.rules.ensures at c.count-of_protocols.ensures.complete;
      rules = c.requires.protocols;
      complete_too = rw c.rules-2.ensures at c.count-of_list.ensures.complete;
      is = is;
      candidates = c.in_ok-found.ensures.candidates list is;
    } in
    let result = c.minimised_candidates.result in
    let sifted = rw (c.params.ensures, c.deref.ensures.value) at c.minimised_candidates.ensures.minimised in
    let told = rw (c.params.ensures, c.deref.ensures.value) at c.minimised_candidates.ensures.tells in
    let a = g.W.Watch.told c.args.watch.now in
    let b = g.W.Watch.told c.minimised_candidates.new.watch in
    record {
      minimised = λ list is. IfOk-weaker result _ _
          (λ v s. is_minimised old new w protocols machine list found (read list is) (listed new v.items) s) sifted;
      same = λ list is. IfOk-weaker result _ _
          (λ v s. is_same old new w protocols machine list found (read list is) (listed new v.items) s) sifted;
      independent = λ list is. IfOk-weaker result _ _
          (λ v s. is_independent old new w protocols machine list found (read list is) (listed new v.items) s) sifted;
      canonical = λ list is. IfOk-weaker result _ _
          (λ v s. is_canonical old new w protocols machine list found (read list is) (listed new v.items) s) sifted;
      sorted = λ list is. IfOk-weaker result _ _
          (λ v s. is_sorted old new w protocols machine list found (read list is) (listed new v.items) s) sifted;
      told = λ list is. MatchResult-weaker result told
          (λ v h. tells old new w protocols machine list found (read list is) c.args.limits a b h) (λ e h. tt);
      failed = λ list is. MatchResult-weaker result told (λ v h. tt)
          (λ e h. fails old new w protocols machine list found (read list is) c.args.limits a b e h);
      known = c.minimised_candidates.ensures.known;
      extends = c.candidates.ensures.extends;
      world = world_stays old new c.candidates.ensures.extends w c.requires.text.table;
      text = text_stays old new c.candidates.ensures.extends w c.requires.text;
    }
