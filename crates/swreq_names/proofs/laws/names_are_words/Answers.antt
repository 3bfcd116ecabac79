use Rattle.swreq_names.proofs.Whole.{protocols_spelled, members_spelled}
use Rattle.swreq_names.proofs.laws.names_are_words.Goals as goal

pub returns-clause-protocols : goal.returns-clause-protocols
returns-clause-protocols c s = protocols_spelled c.args.text.now s c.tokens_are_slices.ensures

pub returns-clause-members : goal.returns-clause-members
returns-clause-members c s = members_spelled c.args.text.now s c.tokens_are_slices.ensures
