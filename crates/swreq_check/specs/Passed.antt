-- A text that has passed its check.
use Rattle.std.specs.Prelude.{List}
use Rattle.swreq_machine.specs.swreq_param.Terms.{Term}
use Rattle.swreq_machine.specs.swreq_rule.declared.rules.Rule.{Rule}
use Rattle.swreq_machine.specs.swreq_symbols.Known.{IsTextOver}
use Rattle.swreq_machine.specs.swreq_valid.Rounds.{last_rules}
use Rattle.swreq_machine.specs.swreq_world.ByTable.{world_by}
use Rattle.swreq_machine.specs.swreq_world.Worlds.{TextWorld}
use Rattle.swreq_check.specs.declared.passed.Passed.{Passed}
use Rattle.swreq_check.specs.Checks.{HavePassed}

abbrev pub world_of : List Term → Passed → TextWorld
world_of terms p = world_by terms p.world.now

abbrev pub rules_of : Passed → List Rule
rules_of p = last_rules p.protocols.now.rounds

-- The ids are of the table. The check came to these rules of the protocols, and refused nothing.
pub record HasPassed (terms : List Term) (p : Passed) : Type 0 where
  pub text : IsTextOver terms p.world.now
  pub passed : HavePassed p.limits (world_of terms p) (rules_of p)
