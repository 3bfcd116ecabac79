use Rattle.swreq_symbols.proofs.Symbols.{list_law}
use Rattle.swreq_symbols.proofs.laws.lists_are_in_text.Goals as goal

pub returns : goal.returns
returns c = list_law
