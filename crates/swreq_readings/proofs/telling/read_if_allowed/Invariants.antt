use Rattle.std.proofs.Common.{◌≡◌, take}
use Rattle.swreq_derive.specs.swreq_param.Tables.{IsOf, term_at}
use Rattle.swreq_derivation.specs.UnderWay.{Continues}
use Rattle.swreq_readings.specs.Readable.{AllowsWord, read_word}
use Rattle.swreq_readings.proofs.telling.read_if_allowed.Given as goal

abbrev pub invariant-loop-k : goal.invariant-loop-k
invariant-loop-k l = record {
  is_of : IsOf l.derivation.table l.at;
  word : AllowsWord l.alphabet l.derivation (term_at l.fn.derivation.table l.fn.subject) (take l.k l.word);
  stands : term_at l.derivation.table l.at ≡ read_word l.alphabet (term_at l.fn.derivation.table l.fn.subject) (take l.k l.word);
  continues : Continues l.fn.derivation l.derivation;
}
