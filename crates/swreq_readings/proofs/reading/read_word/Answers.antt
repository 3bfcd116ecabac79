use Rattle.swreq_readings.proofs.ReadingLemmas.{read_step}
use Rattle.swreq_derivation.proofs.DerivationLemmas.{continues_then}
use Rattle.swreq_readings.proofs.reading.read_word.Goals as goal

pub loop-k-preserved : goal.loop-k-preserved
loop-k-preserved c = let i = c.loop-k.invariant in record {
  is_of = c.in_ok-at.ensures.is_of;
  rest = read_step c.args.alphabet.now _ _ _ c.args.word.now c.loop-k.k _ c.loop-k-test.true c.in_ok-at.ensures.stands i.rest;
  continues = continues_then i.continues c.in_ok-at.ensures.continues;
}

pub returns-in_err-at-clause-continues : goal.returns-in_err-at-clause-continues
returns-in_err-at-clause-continues c = continues_then c.loop-k.invariant.continues c.in_err-at.ensures.continues
