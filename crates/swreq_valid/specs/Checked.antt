-- What is said of a text whose protocols are checked.
use Rattle.std.specs.Prelude.{List}
use Rattle.swreq_complete.specs.swreq_rule.declared.rules.Rule.{Rule}
use Rattle.swreq_symbols.specs.declared.text.Text.{Text}
use Rattle.swreq_valid.specs.Protocols.{ProtocolsView}
use Rattle.swreq_valid.specs.Rounds.{last_rules}

-- what contracts see of a text whose protocols are checked
pub record CheckedView : Type 0 where
  pub text : Text
  pub protocols : ProtocolsView

-- the rules of its protocols
abbrev pub base_of : CheckedView → List Rule
base_of c = last_rules c.protocols.rounds
