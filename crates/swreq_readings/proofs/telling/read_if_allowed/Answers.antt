use Rattle.swreq_derive.specs.swreq_param.Tables.{term_at}
use Rattle.swreq_readings.proofs.ReadingLemmas.{not_said, said_on}
use Rattle.swreq_derivation.proofs.DerivationLemmas.{continues_then}
use Rattle.swreq_readings.proofs.telling.read_if_allowed.Goals as goal

pub returns-then-not-allows_symbol-clause-told : goal.returns-then-not-allows_symbol-clause-told
returns-then-not-allows_symbol-clause-told c =
    let i = c.loop-k.invariant in
    not_said c.args.alphabet.now c.loop-k.derivation
    (term_at c.args.derivation.now.table c.args.subject) c.args.word.now c.loop-k.k _ _ c.allows_symbol.result c.loop-k-test.true
    (record { word = i.word; stands = i.stands }) c.allows_symbol.ensures.1 c.if-not-allows_symbol.true

pub loop-k-preserved : goal.loop-k-preserved
loop-k-preserved c =
    let s = c.loop-k.derivation in
    let n = c.read_symbol.new.derivation in
    let i = c.loop-k.invariant in
    let grows = c.in_ok-at.ensures.continues.grows in
    let on = said_on c.args.alphabet.now s n
    (term_at c.args.derivation.now.table c.args.subject) c.args.word.now c.loop-k.k _ _ _ grows c.loop-k-test.true
    (record { word = i.word; stands = i.stands }) (c.allows_symbol.ensures.0 c.if-not-allows_symbol.false) c.in_ok-at.ensures.stands in
    record {
      is_of = c.in_ok-at.ensures.is_of;
      word = on.word;
      stands = on.stands;
      continues = continues_then i.continues c.in_ok-at.ensures.continues;
    }

pub returns-in_err-at-clause-continues : goal.returns-in_err-at-clause-continues
returns-in_err-at-clause-continues c = continues_then c.loop-k.invariant.continues c.in_err-at.ensures.continues
