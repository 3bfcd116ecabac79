use Rattle.swreq_reqsig.proofs.WellFormed.{list_formed}
use Rattle.swreq_machine.specs.swreq_symbols.Meaning.{facts_of}
use Rattle.swreq_machine.specs.swreq_symbols.Texts.{world_of}
use Rattle.swreq_machine.specs.swreq_world.FactsAt.{source_of}
use Rattle.swreq_machine.specs.swreq_world.Worlds.{signature_at}
use Rattle.swreq_evidence_tests.proofs.worlds.machine_of.Goals as goal

pub returns : goal.returns
returns c =
    let w = world_of c.args.checked.now.text in
    let g = signature_at w c.args.f in record {
      signature = c.requires.f;
      protocols = c.requires.formed;
      list = list_formed (facts_of w) (source_of g) g.requirements c.in_ok-machine.ensures.answer.1.1;
      machine = c.in_ok-machine.ensures.machine;
      params = c.in_ok-machine.ensures.params;
    }
