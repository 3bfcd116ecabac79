use Rattle.std.proofs.Common.{refl}
use Rattle.swreq_symbols.proofs.walk.has_name.Goals as goal

pub returns-in-Some-clause-answer : goal.returns-in-Some-clause-answer
returns-in-Some-clause-answer c = ((λ h. (c.in-Some.field-0, c.in-Some.ensures.answer.given)), λ h. refl)

pub returns-in-None-clause-answer : goal.returns-in-None-clause-answer
returns-in-None-clause-answer c = ((λ h. cc), λ h. absurd (c.in-None.ensures.answer h.0 h.1))
