-- Lists of worked texts. Other texts stand in `swreq_derive`.
use Rattle.std.specs.Prelude.{List, [], ◌∷◌}
use Rattle.swreq_derive.specs.swreq_param.declared.ids.ParamId.{ParamId}
use Rattle.swreq_derive.specs.swreq_param.declared.ids.ProtoId.{ProtoId}
use Rattle.swreq_derive.specs.swreq_param.Terms.{self}
use Rattle.swreq_derive.specs.Derivation.{TermRequirement, TermFacts}
use Rattle.swreq_derive.specs.Derivation.TermRequirement.{Conforms, IsAnyObject, Equals}
use Rattle.swreq_derive.specs.Worked.{protocol, param, facts, τ_0_0, τ_0_1, P}

-- the generic parameters of functions with one and with two
abbrev pub one : List ParamId
one = param 0 ∷ []

abbrev pub two : List ParamId
two = param 0 ∷ param 1 ∷ []

-- ---- a protocol that inherits
-- protocol Base { }
-- protocol Derived: Base { }
-- func f<T: Base & Derived>()
-- func g<T: Derived>()

abbrev pub Base : ProtoId
Base = protocol 0

abbrev pub Derived : ProtoId
Derived = protocol 1

abbrev pub inherited_requirements : List (List TermRequirement)
inherited_requirements = [] ∷ (Conforms self Base ∷ []) ∷ []

abbrev pub inherited : TermFacts
inherited = facts [] inherited_requirements

abbrev pub inherited_f : List TermRequirement
inherited_f = Conforms τ_0_0 Base ∷ Conforms τ_0_0 Derived ∷ []

abbrev pub inherited_g : List TermRequirement
inherited_g = Conforms τ_0_0 Derived ∷ []

-- ---- layouts
-- protocol P: AnyObject { }
-- func f<T: P, U>() where U == T

-- the canonical requirements of f, in order
abbrev pub layouts_canonical : List TermRequirement
layouts_canonical = Conforms τ_0_0 P ∷ IsAnyObject τ_0_0 ∷ Equals τ_0_0 τ_0_1 ∷ []

-- its generators, which are its minimised list
abbrev pub layouts_minimised : List TermRequirement
layouts_minimised = Conforms τ_0_0 P ∷ Equals τ_0_0 τ_0_1 ∷ []

-- ---- two conformances that derive one another
-- protocol P { associatedtype A }
-- func h<T: P, U: P>() where T == U

abbrev pub members_h : List TermRequirement
members_h = Conforms τ_0_0 P ∷ Conforms τ_0_1 P ∷ Equals τ_0_0 τ_0_1 ∷ []

-- what is left of them
abbrev pub members_left : List TermRequirement
members_left = Conforms τ_0_0 P ∷ Equals τ_0_0 τ_0_1 ∷ []
