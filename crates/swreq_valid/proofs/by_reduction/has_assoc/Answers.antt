use Rattle.swreq_rounds.specs.swreq_param.Tables.{term_at}
use Rattle.swreq_valid.proofs.ByReduction.{assoc_result, in_text}
use Rattle.swreq_symbols.proofs.OfTexts.{text_over}
use Rattle.swreq_valid.proofs.by_reduction.has_assoc.Goals as goal

pub conforms-requires-clause-proto : goal.conforms-requires-clause-proto
conforms-requires-clause-proto c =
    in_text c.args.by.now.text.world.now.lexicon (text_over c.args.by.now.text).closed.ids c.args.assoc c.assoc-declared.result
    c.assoc-declared.ensures

pub returns : goal.returns
returns c =
    assoc_result c.args.by.now.text.world.now.lexicon c.args.by.now.rules.now c.args.by.now.over
    (term_at c.args.by.now.text.table.now c.args.subject) c.args.assoc
    c.assoc-declared.result c.conforms.result c.assoc-declared.ensures c.conforms.ensures
