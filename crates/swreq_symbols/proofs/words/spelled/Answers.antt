use Rattle.swreq_symbols.proofs.OfTexts.{ids_over}
use Rattle.swreq_symbols.proofs.words.spelled.Goals as goal

pub symbol_of-requires-clause-ids : goal.symbol_of-requires-clause-ids
symbol_of-requires-clause-ids c = ids_over c.args.text.now
