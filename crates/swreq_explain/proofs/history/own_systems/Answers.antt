use Rattle.std.proofs.{Common.{[], ◌≡◌, ◌∙◌, ◌++◌, None, ap, arith, length, subst, sym}, lemmas.List.{length-map}}
use Rattle.swreq_machine.specs.{swreq_derive.Facts.{generic_params}, swreq_valid.Plans.{bare, listed}, swreq_world.Worlds.{signature_at}}
use Rattle.swreq_machine.proofs.swreq_symbols.OfTexts.{text_over}
use Rattle.swreq_explain.specs.{Histories.{list_origin}, Numbering.{AreNumberedIn, item_by, numbered_from}, Rounds.{AreSystemsIn}}
use Rattle.swreq_explain.{specs.Uses.{HaveFlags, Origin}, proofs.{NumberingLemmas.{list_in_text, numbered_items}, ReadRounds.{rounds_read}}}
use Rattle.swreq_explain.proofs.RoundLemmas.{flags_of}
use Rattle.swreq_explain.proofs.history.own_systems.Goals as goal

pub invariant_of-makings : goal.invariant_of-makings
invariant_of-makings c =
    let w = c.args.text.now.world.now in
    let terms = c.args.text.now.table.now in
    let list = bare (signature_at w c.args.f).requirements in
    let all : c.deref-2.result.now ≡ numbered_from None 1 list
    = c.deref-2.ensures.value ∙ c.in_ok-add_numbered.ensures
    ∙ ap (λ z. z ++ numbered_from None 1 c.deref.result.now) c.new-all.ensures.items
    ∙ ap (numbered_from None 1) (c.deref.ensures.value ∙ c.in_ok-list.ensures) in
    let rounds = rounds_read terms w c.args.f c.args.protocols.now c.args.machine.now c.requires in
    let gs = generic_params c.args.machine.now.params in
    let rs = listed terms list in
    record {
      made = ∣ record {
        of_text = subst (AreNumberedIn terms w.lexicon) (sym all) (list_in_text terms w (text_over c.args.text.now) c.args.f
            c.requires.signature);
        flags = subst (HaveFlags (length c.deref-2.result.now)) (sym c.rounds-3.ensures)
            (subst (λ n. HaveFlags n c.args.machine.now.rounds)
            (ap length (sym (numbered_items terms gs rs None 1 list)) ∙ length-map (numbered_from None 1 list) (item_by terms gs rs)
            ∙ ap length (sym all)) (flags_of rounds.list.1));
        room = omega (
          arith,
          c.in_ok-check_places.ensures,
          c.count.ensures.count,
          ap length c.rounds-2.ensures,
          ap length c.rounds-3.ensures,
        );
      } ∣₁;
    }

pub returns-clause-systems : goal.returns-clause-systems
returns-clause-systems c =
    let w = c.args.text.now.world.now in
    let all : c.deref-2.result.now ≡ numbered_from None 1 (bare (signature_at w c.args.f).requirements)
    = c.deref-2.ensures.value ∙ c.in_ok-add_numbered.ensures
    ∙ ap (λ z. z ++ numbered_from None 1 c.deref.result.now) c.new-all.ensures.items
    ∙ ap (numbered_from None 1) (c.deref.ensures.value ∙ c.in_ok-list.ensures) in
    let base = c.count-2.ensures.count ∙ ap length c.rules.ensures in
    let first = c.count-first.ensures.count ∙ ap length c.rounds.ensures in
    let same : _ ≡ list_origin w c.args.f c.args.protocols.now c.args.machine.now = λ i. record {
      base = base i;
      members = w.lexicon.symbols;
      basic = [];
      all = all i;
      rounds = c.rounds-3.ensures i;
      first = first i;
    } in
    subst (λ (o : Origin). AreSystemsIn c.args.text.now o c.in_ok-systems.systems.items) same c.in_ok-systems.ensures
