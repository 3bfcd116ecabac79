-- Conformance paths: how a conformance comes from a written one, requirement by requirement.
use Rattle.std.specs.Prelude.{◌≡◌, ℕ, ◌<◌, ◌≤◌, ◌⊎◌, List, [], ◌∷◌, length}
use Rattle.swreq_param.specs.declared.ids.ParamId.{ParamId}
use Rattle.swreq_param.specs.declared.ids.ProtoId.{ProtoId}
use Rattle.swreq_param.specs.Terms.{Term}
use Rattle.swreq_derive.specs.Derivation.{TermRequirement, TermFacts, Derivable, for_self}
use Rattle.swreq_derive.specs.Derivation.TermRequirement.{Conforms, Equals}
use Rattle.swreq_derive.specs.Derivation.TermStatement.{Requires}
use Rattle.swreq_derive.specs.Derivation.Source.{Written}
use Rattle.swreq_derive.specs.Instances.{HasNumber}

-- From [U : Q] the requirements with these numbers lead to [T : P]: each is a conformance that the protocol of the one before it requires,
-- and the type parameter goes on by its steps.
abbrev pub LeadsOn : TermFacts → Term → ProtoId → List ℕ → Term → ProtoId → Type 0
LeadsOn f u q [] t p = (u ≡ t) × (q ≡ p)
LeadsOn f u q (n ∷ ns) t p = (v : Term) × (r : ProtoId) × HasNumber n (f.of_protocol q) (Conforms v r) × LeadsOn f (for_self u v) r ns t p

-- A conformance path for [T : P]: the number of a written conformance, and those of requirements that lead from it to P.
-- Its subject is derivably equal to T.
pub record IsConformancePath (f : TermFacts) (params : List ParamId) (written : List TermRequirement) (first : ℕ) (steps : List ℕ)
    (t : Term) (p : ProtoId) : Type 0 where
  pub start : Term
  pub proto : ProtoId
  pub is_written : HasNumber first written (Conforms start proto)
  pub subject : Term
  pub leads : LeadsOn f start proto steps subject p
  pub equal : Derivable f (Written params written) (Requires (Equals subject t))

-- No conformance path for [T : P] has fewer conformances.
abbrev pub IsShortest : TermFacts → List ParamId → List TermRequirement → List ℕ → Term → ProtoId → Type 0
IsShortest f params written steps t p = (k : ℕ) (ns : List ℕ) → IsConformancePath f params written k ns t p → length steps ≤ length ns

-- Of two lists of numbers of the same length, the first comes before the second, from the left.
abbrev pub NumbersBefore : List ℕ → List ℕ → Type 0
NumbersBefore [] ys = ⊥
NumbersBefore (x ∷ xs) [] = ⊥
NumbersBefore (x ∷ xs) (y ∷ ys) = (x < y) ⊎ ((x ≡ y) × NumbersBefore xs ys)

-- The conformance path that is given for [T : P]: none is shorter, and none of the same length has numbers that come before its own.
pub record IsGivenPath (f : TermFacts) (params : List ParamId) (written : List TermRequirement) (first : ℕ) (steps : List ℕ) (t : Term)
    (p : ProtoId) : Type 0 where
  pub path : IsConformancePath f params written first steps t p
  pub shortest : IsShortest f params written steps t p
  pub least : (k : ℕ) (ns : List ℕ) → IsConformancePath f params written k ns t p → length ns ≡ length steps
      → NumbersBefore (k ∷ ns) (first ∷ steps) → ⊥
