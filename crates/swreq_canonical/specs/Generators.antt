-- The generators of a list, and how they are found among candidates.
use Rattle.std.specs.Prelude.{◌↔◌, ◌⊎◌, List, [], ◌∷◌, ◌++◌, Contains}
use Rattle.swreq_derive.specs.swreq_param.declared.ids.ParamId.{ParamId}
use Rattle.swreq_derive.specs.Derivation.{TermRequirement, TermStatement, TermFacts, Source, Derivable}
use Rattle.swreq_derive.specs.Derivation.TermStatement.{Requires}
use Rattle.swreq_derive.specs.Derivation.Source.{Written}
use Rattle.swreq_canonical.specs.Canonical.{IsCanonical}
use Rattle.swreq_canonical.specs.CanonicalOrder.{RequirementBefore, IsStrictlySorted}

-- The statement is derivable from some list of requirements of this kind.
abbrev pub Follows : TermFacts → List ParamId → (TermRequirement → Type 0) → TermStatement → Type 0
Follows f params IsOne st =
    (rs : List TermRequirement) × ((r : TermRequirement) → Contains rs r → IsOne r) × Derivable f (Written params rs) st

-- q is canonical and comes before r
abbrev pub IsEarlier : TermFacts → Source → TermRequirement → TermRequirement → Type 0
IsEarlier f s r q = IsCanonical f s q × RequirementBefore q r

-- r is derivable from canonical requirements that come before it
abbrev pub FollowsFromEarlier : TermFacts → List ParamId → List TermRequirement → TermRequirement → Type 0
FollowsFromEarlier f params list r = Follows f params (IsEarlier f (Written params list) r) (Requires r)

-- A generator is a canonical requirement that is not derivable from any list of canonical requirements that come before it.
abbrev pub IsGenerator : TermFacts → List ParamId → List TermRequirement → TermRequirement → Type 0
IsGenerator f params list r = IsCanonical f (Written params list) r × (FollowsFromEarlier f params list r → ⊥)

-- The list of generators is the strictly sorted list whose members are exactly the generators.
pub record IsGeneratorList (f : TermFacts) (params : List ParamId) (list generators : List TermRequirement) : Type 0 where
  pub sorted : IsStrictlySorted generators
  pub members : (r : TermRequirement) → Contains generators r ↔ IsGenerator f params list r

-- It is told of each canonical requirement whether it is a generator.
abbrev pub AreGeneratorsTold : TermFacts → List ParamId → List TermRequirement → Type 0
AreGeneratorsTold f params list =
    (r : TermRequirement) → IsCanonical f (Written params list) r → IsGenerator f params list r ⊎ FollowsFromEarlier f params list r

-- ---- finding them

-- Candidates are enough where they are canonical and strictly sorted, and each canonical requirement is one of them or follows from
-- canonical requirements that come before it.
pub record AreEnough (f : TermFacts) (params : List ParamId) (list candidates : List TermRequirement) : Type 0 where
  pub sorted : IsStrictlySorted candidates
  pub canonical : (r : TermRequirement) → Contains candidates r → IsCanonical f (Written params list) r
  pub covers : (r : TermRequirement) → IsCanonical f (Written params list) r → Contains candidates r ⊎ FollowsFromEarlier f params list r

-- Going through candidates in order, one takes each that is not derivable from those taken before it. `Takes f params before rest out` says
-- that `out` are all that are taken, where `before` were taken and `rest` is still to come.
pub data Takes (f : TermFacts) (params : List ParamId) : List TermRequirement → List TermRequirement → List TermRequirement → Type 0 where
  ended : {before : List TermRequirement} → Takes f params before [] before
  skipped : {before rest out : List TermRequirement} {r : TermRequirement}
      → Derivable f (Written params before) (Requires r) → Takes f params before rest out → Takes f params before (r ∷ rest) out
  taken : {before rest out : List TermRequirement} {r : TermRequirement}
      → (Derivable f (Written params before) (Requires r) → ⊥) → Takes f params (before ++ r ∷ []) rest out
      → Takes f params before (r ∷ rest) out

-- It is told of each list of some of these what it derives. The ended completions of such lists tell it.
abbrev pub AreDecided : TermFacts → List ParamId → List TermRequirement → Type 0
AreDecided f params candidates =
    (rs : List TermRequirement) (r : TermRequirement) → ((q : TermRequirement) → Contains rs q → Contains candidates q)
    → Dec (Derivable f (Written params rs) (Requires r))
