-- The canonical requirements of a list.
use Rattle.swreq_derive.specs.swreq_param.declared.ids.Step.TheVariants.{Bound, Name}
use Rattle.swreq_derive.specs.swreq_param.Terms.{Term}
use Rattle.swreq_derive.specs.swreq_param.Terms.Term.{Generic, Member}
use Rattle.swreq_derive.specs.Derivation.{TermRequirement, TermFacts, Source, Derivable}
use Rattle.swreq_derive.specs.Derivation.TermRequirement.{Conforms, IsAnyObject, Equals}
use Rattle.swreq_derive.specs.Derivation.TermStatement.{IsValid, Requires}
use Rattle.swreq_derive.specs.Reduced.{IsReducedTypeOf, IsReduced}

-- a generic parameter, or a bound member of a reduced type
abbrev pub CanBePrincipal : TermFacts → Source → Term → Type 0
CanBePrincipal f s (Generic g) = Unit {0}
CanBePrincipal f s (Member t (Bound d)) = IsReduced f s t
CanBePrincipal f s (Member t (Name a)) = ⊥

-- [R : P] or [R : AnyObject] with R reduced; or [U == V] where V is a generic parameter or a bound member of a reduced type, V is not
-- reduced, and U is the reduced type of V.
abbrev pub HasCanonicalForm : TermFacts → Source → TermRequirement → Type 0
HasCanonicalForm f s (Conforms r p) = IsReduced f s r
HasCanonicalForm f s (IsAnyObject r) = IsReduced f s r
HasCanonicalForm f s (Equals u v) = CanBePrincipal f s v × (IsReduced f s v → ⊥) × IsReducedTypeOf f s v u

-- A canonical requirement of a list is derivable from it and has one of these forms.
abbrev pub IsCanonical : TermFacts → Source → TermRequirement → Type 0
IsCanonical f s r = Derivable f s (Requires r) × HasCanonicalForm f s r

-- The principal type of [R : P] and of [R : AnyObject] is R, and that of [U == V] is V.
abbrev pub principal : TermRequirement → Term
principal (Conforms r p) = r
principal (IsAnyObject r) = r
principal (Equals u v) = v

-- Each valid type parameter has a reduced type, which is told. An ended completion tells it.
abbrev pub HasReducedTypes : TermFacts → Source → Type 0
HasReducedTypes f s = (t : Term) → Derivable f s (IsValid t) → (r : Term) × IsReducedTypeOf f s t r
