use Rattle.std.proofs.Common.{refl, subst, sym}
use Rattle.swreq_correspondence.specs.swreq_param.Tables.{term_at}
use Rattle.swreq_correspondence.specs.swreq_derive.Derivation.{HasParam}
use Rattle.swreq_correspondence.specs.Shown.{ShowsValid}
use Rattle.swreq_correspondence.specs.Symbols.{word_of}
use Rattle.swreq_symbols.specs.Texts.{world_of}
use Rattle.swreq_symbols.specs.Fronts.{without}
use Rattle.swreq_symbols.specs.Meaning.{facts_of, symbols_of}
use Rattle.swreq_symbols.specs.Overs.{source_over}
use Rattle.swreq_symbols.specs.Vanishing.{Links}
use Rattle.swreq_symbols.proofs.Walking.{begins_linked, begins_valid, head_valid}
use Rattle.swreq_symbols.proofs.walk.least_word.Goals as goal

pub returns-then-not-begins-clause-valid : goal.returns-then-not-begins-clause-valid
returns-then-not-begins-clause-valid c = (
  (λ h. cc),
  λ h. c.if-not-begins.ensures.answer.1 (subst (HasParam (source_over c.args.reading.now.over)) (sym c.head.ensures)
      (head_valid (world_of c.args.reading.now.text)
      (source_over c.args.reading.now.over) c.args.reading.now.rules.now (term_at c.args.reading.now.text.table.now c.args.t) h)),
)

pub add_members-requires-clause-base : goal.add_members-requires-clause-base
add_members-requires-clause-base c = record {
  valid = subst (λ n. ShowsValid (symbols_of c.args.reading.now.text.world.now.lexicon) (facts_of (world_of c.args.reading.now.text))
      (source_over c.args.reading.now.over) (Links c.args.reading.now.rules.now)
      (without n (term_at c.args.reading.now.text.table.now c.args.t)))
      (sym c.members.ensures)
      (begins_valid (world_of c.args.reading.now.text)
      (source_over c.args.reading.now.over) c.args.reading.now.rules.now (term_at c.args.reading.now.text.table.now c.args.t)
      c.head.result c.head.ensures (c.if-not-begins.ensures.answer.0 refl));
  linked = subst (λ n. Links c.args.reading.now.rules.now (word_of (symbols_of c.args.reading.now.text.world.now.lexicon)
      (source_over c.args.reading.now.over) (without n (term_at c.args.reading.now.text.table.now c.args.t))) c.begins.new.word.items)
      (sym c.members.ensures)
      (begins_linked (world_of c.args.reading.now.text)
      (source_over c.args.reading.now.over) c.args.reading.now.rules.now (term_at c.args.reading.now.text.table.now c.args.t)
      c.head.result c.begins.new.word.items c.head.ensures c.if-not-begins.ensures.linked);
  least = c.if-not-begins.ensures.least;
}
