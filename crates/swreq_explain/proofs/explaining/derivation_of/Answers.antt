use Rattle.std.proofs.Common.{subst}
use Rattle.swreq_machine.specs.swreq_derive.{declared.known.Params.{Params}, Derivation.{Derivable, Source.{Written}}}
use Rattle.swreq_machine.specs.swreq_derive.{Derivation.TermStatement.{Requires}, Facts.{generic_params, requirement_of}}
use Rattle.swreq_machine.specs.swreq_world.{ByTable.{world_by}, FactsAt.{facts_of, written_list}, Worlds.{signature_at}}
use Rattle.swreq_explain.proofs.explaining.derivation_of.Goals as goal

pub explain-requires-clause-yes : goal.explain-requires-clause-yes
explain-requires-clause-yes c =
    let w = world_by c.args.table.now c.args.world.now in
    let list = written_list (signature_at w c.args.f) in record {
      ids = c.requires.r;
      derivable = subst (λ (ps : Params). Derivable (facts_of w) (Written (generic_params ps) list)
          (Requires (requirement_of c.args.table.now c.args.r))) c.requires.rounds.params
          ((c.in_ok-derives.ensures list c.requires.rounds.machine).0 c.if-not-branch.false);
    }
