use Rattle.std.proofs.Common.{subst, Contains}
use Rattle.swreq_answer_tests.proofs.read_again.put_again.Goals as goal

pub lines_text-requires : goal.lines_text-requires
lines_text-requires c = λ l k. c.in_ok-lines.ensures.ids l (subst (λ z. Contains z l) c.deref.ensures.value k)
