use Rattle.std.proofs.Common.{inl, inr, refl}
use Rattle.std.proofs.lemmas.Slice.Eq.{slice_eq-Decides}
use Rattle.swreq_map.proofs.swreq_word.Comparing.{symbol_decides}
use Rattle.swreq_valid.specs.swreq_param.Tables.{term_at}
use Rattle.swreq_valid.specs.swreq_symbols.Texts.{world_of}
use Rattle.swreq_machine.proofs.Answering.{derivable_shown, equal_answer, valid_answer}
use Rattle.swreq_valid.proofs.swreq_symbols.OfTexts.{text_over}
use Rattle.swreq_machine.proofs.machine.Machine.are_equal.Goals as goal

pub returns-then-not-walk-clause-answer : goal.returns-then-not-walk-clause-answer
returns-then-not-walk-clause-answer c list is =
    inl (λ v.
    (let shown = c.if-not-walk.ensures.valid.1 (derivable_shown (world_of c.args.text.now)
    (text_over c.args.text.now).closed c.args.self.now list is
    (term_at c.args.text.now.table.now c.args.left) v) in cc))

pub returns-then-not-walk-2-clause-answer : goal.returns-then-not-walk-2-clause-answer
returns-then-not-walk-2-clause-answer c list is =
    inr (λ v.
    (let shown = c.if-not-walk-2.ensures.valid.1 (derivable_shown (world_of c.args.text.now)
    (text_over c.args.text.now).closed c.args.self.now list is
    (term_at c.args.text.now.table.now c.args.right) v) in cc))

pub returns-clause-answer : goal.returns-clause-answer
returns-clause-answer c list is =
    let w = world_of c.args.text.now in
    let a = term_at c.args.text.now.table.now c.args.left in
    let b = term_at c.args.text.now.table.now c.args.right in
    let m = c.args.self.now in (
      (valid_answer w (text_over c.args.text.now).closed m list is a c.walk.result c.walk.ensures.valid).0 c.if-not-walk.false,
      (valid_answer w (text_over c.args.text.now).closed m list is b c.walk-2.result c.walk-2.ensures.valid).0 c.if-not-walk-2.false,
      equal_answer w (text_over c.args.text.now).closed m list is a b c.walk.new.word.items c.walk-2.new.word.items c.eq.result
          (c.if-not-walk.ensures.valid.0 refl) (c.if-not-walk-2.ensures.valid.0 refl) c.if-not-walk.ensures.least.0
          c.if-not-walk-2.ensures.least.0 c.if-not-walk.ensures.least.1 c.if-not-walk-2.ensures.least.1
          (slice_eq-Decides symbol_decides c.walk.new.word.items c.walk-2.new.word.items c.eq.result c.eq.ensures),
    )
