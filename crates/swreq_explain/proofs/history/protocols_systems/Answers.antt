use Rattle.std.proofs.{Common.{[], ◌≡◌, ◌∙◌, ap, arith, length, subst, sym}, lemmas.List.{length-map}}
use Rattle.swreq_machine.proofs.swreq_symbols.OfTexts.{text_over}
use Rattle.swreq_explain.specs.{Histories.{protocols_origin}, Numbering.{AreNumberedIn, item_by, numbered_in}, Rounds.{AreSystemsIn}}
use Rattle.swreq_explain.{specs.Uses.{HaveFlags, Origin}, proofs.NumberingLemmas.{protocols_in_text, protocols_items}}
use Rattle.swreq_explain.proofs.RoundLemmas.{flags_of}
use Rattle.swreq_explain.proofs.history.protocols_systems.Goals as goal

pub invariant_of-makings : goal.invariant_of-makings
invariant_of-makings c =
    let w = c.args.text.now.world.now in
    let terms = c.args.text.now.table.now in
    let order = w.lexicon.written_order in
    let all : c.deref.result.now ≡ numbered_in w order = c.deref.ensures.value ∙ c.in_ok-all.ensures in
    let count = ap length (protocols_items terms w [] [] order) ∙ length-map (numbered_in w order) (item_by terms [] []) ∙ ap length
    (sym all) in
    record {
      made = ∣ record {
        of_text = subst (AreNumberedIn terms w.lexicon) (sym all) (protocols_in_text terms w (text_over c.args.text.now) order);
        flags = subst (HaveFlags (length c.deref.result.now)) (sym c.rounds-rounds.ensures)
            (subst (λ n. HaveFlags n c.args.protocols.now.rounds) count (flags_of c.requires.1));
        room = (let room = c.in_ok-check_places.ensures in let count = c.count.ensures.count in omega (arith, room, count));
      } ∣₁;
    }

pub returns : goal.returns
returns c =
    let w = c.args.text.now.world.now in
    let all = c.deref.ensures.value ∙ c.in_ok-all.ensures in
    let origin = protocols_origin w c.args.protocols.now.rounds in
    let same : _ ≡ origin = λ i. record {
      base = 0;
      members = w.lexicon.symbols;
      basic = origin.basic;
      all = all i;
      rounds = c.rounds-rounds.ensures i;
      first = 0;
    } in
    subst (λ (o : Origin). AreSystemsIn c.args.text.now o c.in_ok-systems.systems.items) same c.in_ok-systems.ensures
