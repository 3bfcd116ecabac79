-- The order of canonical requirements.
use Rattle.std.specs.Prelude.{◌≡◌, ◌<◌, ◌⊎◌, List, [], ◌∷◌, Contains}
use Rattle.swreq_derive.specs.swreq_param.Order.{TermBefore}
use Rattle.swreq_derive.specs.Derivation.{TermRequirement}
use Rattle.swreq_derive.specs.Derivation.TermRequirement.{Conforms, IsAnyObject, Equals}
use Rattle.swreq_canonical.specs.Canonical.{principal}

-- Of one principal type, conformances come first, by protocol name, which is the rank of a `ProtoId`, and then the layout. A same-type
-- requirement shares its principal type with no other canonical requirement.
abbrev pub KindBefore : TermRequirement → TermRequirement → Type 0
KindBefore (Conforms t p) (Conforms u q) = p.rank < q.rank
KindBefore (Conforms t p) (IsAnyObject u) = Unit {0}
KindBefore (Conforms t p) (Equals u v) = ⊥
KindBefore (IsAnyObject t) r = ⊥
KindBefore (Equals t u) r = ⊥

-- Canonical requirements go by their principal types.
abbrev pub RequirementBefore : TermRequirement → TermRequirement → Type 0
RequirementBefore r q = TermBefore (principal r) (principal q) ⊎ ((principal r ≡ principal q) × KindBefore r q)

-- A list is strictly sorted where each member comes before all later ones.
abbrev pub IsStrictlySorted : List TermRequirement → Type 0
IsStrictlySorted [] = Unit {0}
IsStrictlySorted (r ∷ rs) = ((q : TermRequirement) → Contains rs q → RequirementBefore r q) × IsStrictlySorted rs
