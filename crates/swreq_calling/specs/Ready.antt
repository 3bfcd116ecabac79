-- A text whose queries may be answered.
use Rattle.std.specs.Prelude.{List}
use Rattle.swreq_machine.specs.swreq_complete.declared.limit.Limits.{Limits}
use Rattle.swreq_machine.specs.swreq_param.Terms.{Term}
use Rattle.swreq_machine.specs.swreq_symbols.Known.{IsTextOver}
use Rattle.swreq_machine.specs.swreq_valid.Protocols.{AreRulesOf, ProtocolsView, protocols_of}
use Rattle.swreq_machine.specs.swreq_valid.Rounds.{AreRounds, last_rules}
use Rattle.swreq_machine.specs.swreq_world.ByTable.{world_by}
use Rattle.swreq_machine.specs.swreq_world.Worlds.{IdWorld, TextWorld}

-- These are the rounds of the protocols of the world, and their rules.
pub record AreProtocolsOf (w : TextWorld) (p : ProtocolsView) : Type 0 where
  pub rounds : (limits : Limits) × AreRounds limits (protocols_of w) p.rounds
  pub rules : AreRulesOf w (last_rules p.rounds)

-- The world belongs to the table, and the rules are those of its protocols.
pub record IsReady (terms : List Term) (w : IdWorld) (p : ProtocolsView) : Type 0 where
  pub text : IsTextOver terms w
  pub protocols : AreProtocolsOf (world_by terms w) p
