use Rattle.std.proofs.Common.{refl}
use Rattle.swreq_rounds.specs.swreq_param.Tables.{term_at}
use Rattle.swreq_symbols.specs.Meaning.{facts_of, symbols_of}
use Rattle.swreq_symbols.specs.Vanishing.{Links}
use Rattle.swreq_valid.proofs.Planning.{valid_from_list, valid_to_list}
use Rattle.swreq_symbols.specs.Texts.{world_of}
use Rattle.swreq_valid.proofs.sides.fails_at.Goals as goal

pub returns-then-shown : goal.returns-then-shown
returns-then-shown c rs =
    valid_to_list (symbols_of c.args.reading.now.text.world.now.lexicon) (facts_of (world_of c.args.reading.now.text)) rs
    (Links c.args.reading.now.rules.now) (term_at c.args.reading.now.text.table.now c.args.subject)
    c.args.reading.now.over (c.in_ok-shown.ensures.0 c.if-shown.true)

pub returns-else-shown : goal.returns-else-shown
returns-else-shown c rs = (
  (λ h.
      let e = c.in_ok-shown.ensures.1
      (valid_from_list (symbols_of c.args.reading.now.text.world.now.lexicon) (facts_of (world_of c.args.reading.now.text)) rs
      (Links c.args.reading.now.rules.now) (term_at c.args.reading.now.text.table.now c.args.subject)
      c.args.reading.now.over h) in
      let f = c.if-shown.false in cc),
  refl,
)
