use Rattle.std.proofs.Common.{◌≡◌, drop}
use Rattle.swreq_derive.specs.swreq_param.Tables.{IsOf, term_at}
use Rattle.swreq_derivation.specs.UnderWay.{Continues}
use Rattle.swreq_readings.specs.Readable.{read_word}
use Rattle.swreq_readings.proofs.reading.read_word.Given as goal

abbrev pub invariant-loop-k : goal.invariant-loop-k
invariant-loop-k l = record {
  is_of : IsOf l.derivation.table l.at;
  rest : read_word l.alphabet (term_at l.derivation.table l.at) (drop l.k l.word) ≡ read_word l.alphabet
      (term_at l.fn.derivation.table l.fn.subject) l.word;
  continues : Continues l.fn.derivation l.derivation;
}
