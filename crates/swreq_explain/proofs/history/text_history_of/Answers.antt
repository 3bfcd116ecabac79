use Rattle.std.proofs.Common.{refl, subst, sym}
use Rattle.swreq_machine.specs.swreq_symbols.Meaning.{symbols_of}
use Rattle.swreq_explain.{specs.{Histories.{protocols_origin}, Rounds.{AreSystemsOf}}, proofs.NumberingLemmas.{required_in_text}}
use Rattle.swreq_explain.proofs.history.text_history_of.Goals as goal

pub returns : goal.returns
returns c =
    let w = c.args.world.now in
    let terms = c.args.table.now in
    record {
      world = refl;
      self_id = λ p k t q at. c.id_of_self.ensures t (required_in_text terms w c.requires.text p k _ at).0;
      systems = subst (AreSystemsOf (symbols_of w.lexicon) terms (protocols_origin w c.args.protocols.now.rounds)) (sym c.new.ensures)
          c.in_ok-systems.ensures;
    }
