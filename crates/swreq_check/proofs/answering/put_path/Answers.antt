use Rattle.swreq_reqsig.proofs.WellFormed.{list_formed}
use Rattle.swreq_machine.specs.swreq_symbols.Meaning.{facts_of}
use Rattle.swreq_machine.specs.swreq_world.FactsAt.{source_of}
use Rattle.swreq_machine.specs.swreq_world.Worlds.{signature_at}
use Rattle.swreq_check.specs.Settings.{world_in}
use Rattle.swreq_check.proofs.answering.put_path.Goals as goal

pub shortest-requires-clause-machine : goal.shortest-requires-clause-machine
shortest-requires-clause-machine c =
    let w = world_in c.args.table.now c.args.own.now.s.now in
    let own = signature_at w c.args.own.now.f in
    let h = c.requires.own.machine in record {
      signature = h.signature;
      protocols = c.requires.own.ready.formed;
      list = λ r has. list_formed (facts_of w) (source_of own) own.requirements h.valid r has;
      machine = h.machine;
      params = h.params;
    }

pub shortest-requires-clause-asked : goal.shortest-requires-clause-asked
shortest-requires-clause-asked c = c.requires.yes.ids

pub shortest-requires-clause-derivable : goal.shortest-requires-clause-derivable
shortest-requires-clause-derivable c = c.requires.yes.derivable

pub path_text-requires-clause-numbers : goal.path_text-requires-clause-numbers
path_text-requires-clause-numbers c =
    c.paths_have_texts.ensures _ _ _ _ _ c.in_ok-path.path.first c.in_ok-path.path.steps c.in_ok-path.ensures.path.path
