use Rattle.swreq_rounds.specs.swreq_param.Tables.{term_at}
use Rattle.swreq_symbols.proofs.Giving.{not_given}
use Rattle.swreq_valid.specs.ByReduction.{ReducesConformance}
use Rattle.swreq_valid.proofs.ByReduction.{given_result, in_text}
use Rattle.swreq_symbols.proofs.OfTexts.{text_over}
use Rattle.swreq_valid.proofs.by_reduction.is_given.Goals as goal

pub conforms-requires-clause-proto : goal.conforms-requires-clause-proto
conforms-requires-clause-proto c =
    in_text c.args.by.now.text.world.now.lexicon (text_over c.args.by.now.text).closed.ids c.args.assoc c.assoc-declared.result
    c.assoc-declared.ensures

pub returns-then-declared-name : goal.returns-then-declared-name
returns-then-declared-name c =
    given_result c.args.by.now.text.world.now.lexicon c.args.by.now.rules.now c.args.by.now.over
    (term_at c.args.by.now.text.table.now c.args.subject) c.args.name c.args.assoc
    c.assoc-declared.result c.conforms.result c.assoc-declared.ensures c.if-declared-name.true c.conforms.ensures

pub returns-else-declared-name : goal.returns-else-declared-name
returns-else-declared-name c = (
  (λ h. cc),
  λ g. absurd (not_given c.args.by.now.text.world.now.lexicon (ReducesConformance c.args.by.now.text.world.now.lexicon
      c.args.by.now.rules.now c.args.by.now.over (term_at c.args.by.now.text.table.now c.args.subject)) c.args.name c.args.assoc
      c.assoc-declared.result c.assoc-declared.ensures c.if-declared-name.false g),
)
