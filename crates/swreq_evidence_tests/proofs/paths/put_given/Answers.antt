use Rattle.std.proofs.Common.{subst}
use Rattle.swreq_machine.specs.swreq_param.Tables.{term_at}
use Rattle.swreq_machine.specs.swreq_derive.declared.known.Params.{Params}
use Rattle.swreq_machine.specs.swreq_derive.Derivation.{Derivable}
use Rattle.swreq_machine.specs.swreq_derive.Derivation.Source.{Written}
use Rattle.swreq_machine.specs.swreq_derive.Derivation.TermRequirement.{Conforms}
use Rattle.swreq_machine.specs.swreq_derive.Derivation.TermStatement.{Requires}
use Rattle.swreq_machine.specs.swreq_derive.Facts.{generic_params}
use Rattle.swreq_machine.specs.swreq_symbols.Texts.{world_of}
use Rattle.swreq_machine.specs.swreq_world.FactsAt.{facts_of, written_list}
use Rattle.swreq_machine.specs.swreq_world.Worlds.{signature_at}
use Rattle.swreq_evidence_tests.proofs.paths.put_given.Goals as goal

pub shortest-requires-clause-derivable : goal.shortest-requires-clause-derivable
shortest-requires-clause-derivable c =
    let w = world_of c.args.text.now in
    let list = written_list (signature_at w c.args.asked.0) in
    subst (λ (ps : Params). Derivable (facts_of w) (Written (generic_params ps) list)
    (Requires (Conforms (term_at c.args.text.now.table.now c.args.asked.1) c.args.asked.2)))
    c.requires.machine.params ((c.in_ok-derives.ensures list c.requires.machine.machine).0 c.if-not-branch.false)
