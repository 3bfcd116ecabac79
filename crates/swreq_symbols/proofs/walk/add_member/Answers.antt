use Rattle.std.proofs.Common.{refl, subst, sym, ◌∷◌, ◌++◌, []}
use Rattle.swreq_correspondence.specs.swreq_param.Tables.{term_at}
use Rattle.swreq_symbols.specs.Texts.{world_of}
use Rattle.swreq_symbols.specs.Overs.{source_over}
use Rattle.swreq_symbols.specs.Vanishing.{HasStep, Links}
use Rattle.swreq_symbols.proofs.Walking.{goes_on, next_word, stops}
use Rattle.swreq_symbols.proofs.OfTexts.{ids_over}
use Rattle.swreq_symbols.proofs.walk.add_member.Goals as goal

pub symbol_of-requires-clause-ids : goal.symbol_of-requires-clause-ids
symbol_of-requires-clause-ids c = ids_over c.args.reading.now.text

pub returns-then-not-has_step-clause-valid : goal.returns-then-not-has_step-clause-valid
returns-then-not-has_step-clause-valid c = (
  (λ h. cc),
  λ h. absurd (stops (world_of c.args.reading.now.text)
      (source_over c.args.reading.now.over) c.args.reading.now.rules.now
      (term_at c.args.reading.now.text.table.now c.args.t) _ c.in-Some.step c.args.word.now.items c.in-Some.ensures.1
      c.requires.base.linked
      (λ k. let e = c.if-not-has_step.ensures.answer.1 (subst (λ z.
      HasStep c.args.reading.now.text.world.now.lexicon c.args.reading.now.rules.now z c.in-Some.step)
      (sym c.deref.ensures.value) k) in cc) h),
)

pub returns-clause-valid : goal.returns-clause-valid
returns-clause-valid c = (
  (λ h. goes_on (world_of c.args.reading.now.text)
      (source_over c.args.reading.now.over) c.args.reading.now.rules.now
      (term_at c.args.reading.now.text.table.now c.args.t) _ c.in-Some.step c.args.word.now.items c.in-Some.ensures.1
      c.requires.base.valid c.requires.base.linked
      (subst (λ z. HasStep c.args.reading.now.text.world.now.lexicon c.args.reading.now.rules.now z c.in-Some.step) c.deref.ensures.value
      (c.if-not-has_step.ensures.answer.0 refl))),
  λ h. refl,
)

pub returns-clause-read : goal.returns-clause-read
returns-clause-read c = record {
  valid = goes_on (world_of c.args.reading.now.text)
      (source_over c.args.reading.now.over) c.args.reading.now.rules.now
      (term_at c.args.reading.now.text.table.now c.args.t) _ c.in-Some.step c.args.word.now.items c.in-Some.ensures.1
      c.requires.base.valid c.requires.base.linked
      (subst (λ z. HasStep c.args.reading.now.text.world.now.lexicon c.args.reading.now.rules.now z c.in-Some.step) c.deref.ensures.value
      (c.if-not-has_step.ensures.answer.0 refl));
  linked = next_word (world_of c.args.reading.now.text)
      (source_over c.args.reading.now.over) c.args.reading.now.rules.now
      (term_at c.args.reading.now.text.table.now c.args.t) _ c.in-Some.step c.args.word.now.items c.append.new.word.items
      c.in-Some.ensures.1 c.requires.base.linked
      (subst (λ y. Links c.args.reading.now.rules.now (c.args.word.now.items ++ y ∷ []) c.append.new.word.items) c.symbol_of.ensures
      c.append.ensures.congruent);
  least = c.append.ensures.least;
}
