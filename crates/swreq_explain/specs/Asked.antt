-- What lines are written for: a requirement, and the rounds that it follows from.
use Rattle.std.specs.Prelude.{◌≡◌, ◌<◌, List, length}
use Rattle.swreq_machine.specs.{swreq_param.Terms.{Term}, swreq_derive.declared.requirements.Requirement.{Requirement}}
use Rattle.swreq_machine.specs.swreq_derive.{Derivation.{Derivable, TermStatement.{Requires}}, Facts.{requirement_of}}
use Rattle.swreq_machine.specs.{swreq_complete.declared.limit.Limits.{Limits}, swreq_lowering.declared.ids.FuncId.{FuncId}}
use Rattle.swreq_machine.specs.swreq_world.{ByTable.{world_by}, FactsAt.{facts_of, source_of, written_list}, Worlds.{IdWorld, signature_at}}
use Rattle.swreq_machine.specs.{swreq_symbols.Known.{IsRequirementIn}, Machines.{IsMachineOf, MachineView}, OfSignatures.{signature_plan}}
use Rattle.swreq_machine.specs.swreq_valid.{Protocols.{ProtocolsView, protocols_of}, Rounds.{AreRounds, last_rules}}

-- The requirement is of the text, and derivable from the list of the signature.
pub record IsYes (terms : List Term) (w : IdWorld) (f : FuncId) (r : Requirement) : Type 0 where
  pub ids : IsRequirementIn terms w.lexicon r
  pub derivable : Derivable (facts_of (world_by terms w)) (source_of (signature_at (world_by terms w) f))
      (Requires (requirement_of terms r))

-- The signature is of the world. These are the rounds of the protocols, and the rounds of the machine of its list, which begin with the
-- protocols' rules.
pub record AreRoundsFor (terms : List Term) (w : IdWorld) (f : FuncId) (p : ProtocolsView) (m : MachineView) : Type 0 where
  pub signature : f.place < length w.signatures
  pub params : m.params ≡ (signature_at (world_by terms w) f).params
  pub protocols : (limits : Limits) × AreRounds limits (protocols_of (world_by terms w)) p.rounds
  pub list : (limits : Limits)
      × AreRounds limits (signature_plan (world_by terms w) (last_rules p.rounds) (signature_at (world_by terms w) f)) m.rounds
  pub machine : IsMachineOf (world_by terms w) (written_list (signature_at (world_by terms w) f)) m
