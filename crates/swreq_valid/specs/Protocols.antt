-- What is said of the rules of the protocols.
use Rattle.std.specs.Prelude.{Bool, List}
use Rattle.swreq_complete.specs.swreq_rule.declared.rules.Rule.{Rule}
use Rattle.swreq_rounds.specs.Given.{protocols_plan}
use Rattle.swreq_rounds.specs.Plan.{Plan}
use Rattle.swreq_rounds.specs.Presents.{AreProtocolRules}
use Rattle.swreq_symbols.specs.Meaning.{facts_of, symbols_of}
use Rattle.swreq_world.specs.Worlds.{TextWorld}
use Rattle.swreq_valid.specs.Rounds.{RoundView}

-- what contracts see of the rules of the protocols
pub record ProtocolsView : Type 0 where
  pub rounds : List RoundView
  -- for each protocol, by rank, a flag for each of its requirements, set where it is usable
  pub usable : List (List Bool)

-- The rules are those of the protocols of the world.
abbrev pub AreRulesOf : TextWorld → List Rule → Type 0
AreRulesOf w rules = AreProtocolRules (symbols_of w.lexicon) (facts_of w) rules

-- the rounds of the protocols of the world
abbrev pub protocols_of : TextWorld → Plan
protocols_of w = protocols_plan (symbols_of w.lexicon) (facts_of w)
