use Rattle.std.proofs.Common.{ap, arith, length, length-append, subst, sym, ◌∙◌}
use Rattle.swreq_machine.specs.{swreq_symbols.Meaning.{symbols_of}, swreq_world.Worlds.{IdWorld}}
use Rattle.swreq_machine.proofs.swreq_symbols.OfTexts.{text_over}
use Rattle.swreq_explain.specs.{Histories.{IsSelfId, list_origin, protocols_origin}, Rounds.{AreSystemsOf}}
use Rattle.swreq_explain.proofs.{AlphabetLemmas.{is_inherited}, HistoryLemmas.{history_for}, ReadRounds.{rounds_read}}
use Rattle.swreq_readings.specs.Inherited.{IsInherited}
use Rattle.swreq_explain.proofs.history.history_of.Goals as goal

pub invariant_of-alphabet : goal.invariant_of-alphabet
invariant_of-alphabet c =
    let base = c.args.base.now in
    let w = c.args.text.now.world.now in
    record {
      inherited = subst (λ (z : IdWorld). ∥ IsInherited z base.self_id ∥₁) (sym c.requires.base.world)
          ∣ is_inherited c.args.text.now.table.now w base.self_id c.requires.base.self_id (text_over c.args.text.now) ∣₁;
    }

pub returns : goal.returns
returns c =
    let w = c.args.text.now.world.now in
    let terms = c.args.text.now.table.now in
    let p = c.args.protocols.now in
    let m = c.args.machine.now in
    let base = c.args.base.now in
    history_for terms w c.args.f p m _ (record {
      alphabet = record {
        world = c.requires.base.world;
        self_id = subst (λ (z : IdWorld). IsSelfId terms z base.self_id) (sym c.requires.base.world) c.requires.base.self_id;
        params_are = c.params.ensures;
      };
      few = omega (
        arith,
        length-append c.items.result.now c.new.result,
        ap length c.new.ensures,
        ap length c.items.ensures ∙ c.requires.base.systems.count_is,
        c.in_ok-systems.ensures.systems.count_is,
        c.in_ok-systems.ensures.places,
      );
      of_protocols = subst (AreSystemsOf (symbols_of w.lexicon) terms (protocols_origin w p.rounds)) (sym c.items.ensures)
          c.requires.base.systems;
      of_list = subst (AreSystemsOf (symbols_of w.lexicon) terms (list_origin w c.args.f p m)) (sym c.new.ensures)
          c.in_ok-systems.ensures.systems;
    }) (rounds_read terms w c.args.f p m c.requires.rounds) (text_over c.args.text.now)
