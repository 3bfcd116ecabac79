use Rattle.swreq_print.specs.swreq_derive.Derivation.{Derives}
use Rattle.swreq_query.proofs.OneAnswer.{one_answer, one_line}
use Rattle.swreq_query.proofs.laws.answer_is_one.Goals as goal

pub returns : goal.returns
returns c = record {
  answer = λ f guarded s. one_answer (Derives f guarded s);
  line = λ x f guarded s. one_line (Derives f guarded s) x;
}
