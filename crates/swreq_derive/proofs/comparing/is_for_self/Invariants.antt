use Rattle.std.proofs.Common.{◌≡◌, ◌↔◌}
use Rattle.swreq_param.specs.Terms.{member_count}
use Rattle.swreq_param.specs.Tables.{IsOf, term_at}
use Rattle.swreq_derive.specs.Derivation.{for_self}
use Rattle.swreq_derive.proofs.comparing.is_for_self.Given as goal

-- What is left of the one is what is left of the other with T for `Self` where the wholes are so.
abbrev pub invariant-loop-to : goal.invariant-loop-to
invariant-loop-to l = record {
  from : IsOf l.table l.from;
  to : IsOf l.table l.to;
  same : (term_at l.table l.to ≡ for_self (term_at l.table l.t) (term_at l.table l.from))
      ↔ (term_at l.table l.fn.v ≡ for_self (term_at l.table l.t) (term_at l.table l.fn.u));
}

abbrev pub decreases-loop-to : goal.decreases-loop-to
decreases-loop-to l = member_count (term_at l.table l.from)
