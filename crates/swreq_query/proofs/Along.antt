-- What is derivable alike has the same answers.
use Rattle.swreq_print.specs.swreq_derive.Derivation.{TermStatement}
use Rattle.swreq_print.specs.swreq_derive.Derivation.TermRequirement.{Equals}
use Rattle.swreq_print.specs.swreq_derive.Derivation.TermStatement.{IsValid, Requires}
use Rattle.swreq_print.specs.swreq_lowering.Queries.{TermAsks}
use Rattle.swreq_query.specs.Answers.{Answer, IsAnswer}
use Rattle.swreq_query.specs.Answers.Answer.{Invalid, Yes, No, Reduced}

pub along : (D E : TermStatement → Type 0) → ((st : TermStatement) → D st → E st) → ((st : TermStatement) → E st → D st)
    → (q : TermAsks) (a : Answer) → IsAnswer D q a → IsAnswer E q a
along D E there back q Invalid h = (h.0, h.1, λ e. h.2 (back (IsValid h.0) e))
along D E there back q Yes h = (λ s i. there (IsValid s) (h.0 s i), (h.1.0, h.1.1, there (Requires h.1.0) h.1.2))
along D E there back q No h = (λ s i. there (IsValid s) (h.0 s i), (h.1.0, h.1.1, λ e. h.1.2 (back (Requires h.1.0) e)))
along D E there back q (Reduced u) h = (
  λ s i. there (IsValid s) (h.0 s i),
  (h.1.0, h.1.1, (there (Requires (Equals h.1.0 u)) h.1.2.0, λ v e b. h.1.2.1 v (back (Requires (Equals h.1.0 v)) e) b)),
)
