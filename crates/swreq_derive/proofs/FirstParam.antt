-- No type parameter comes before τ_0_0.
use Rattle.std.proofs.Common.{inl, inr, arith}
use Rattle.swreq_param.specs.Order.{TermBefore}
use Rattle.swreq_param.specs.Terms.{Term}
use Rattle.swreq_param.specs.Terms.Term.{Generic, Member}
use Rattle.swreq_derive.specs.Derivation.{Source, TermFacts, Derivable}
use Rattle.swreq_derive.specs.Derivation.Derives.{reflex}
use Rattle.swreq_derive.specs.Derivation.TermStatement.{IsValid}
use Rattle.swreq_derive.specs.Reduced.{IsReduced}
use Rattle.swreq_derive.specs.Worked.{τ_0_0}

pub none_before : (u : Term) → TermBefore u τ_0_0 → ⊥
none_before (Generic g) (inl h) = omega arith
none_before (Generic g) (inr (e, inl h)) = omega arith
none_before (Generic g) (inr (e, inr h)) = let i = h.1 in omega arith
none_before (Member t x) (inl h) = omega arith
none_before (Member t x) (inr h) = h.1

pub first_reduced : (f : TermFacts) (s : Source) → Derivable f s (IsValid τ_0_0) → IsReduced f s τ_0_0
first_reduced f s v = record { equal = reflex v; least = λ u e b. none_before u b }
