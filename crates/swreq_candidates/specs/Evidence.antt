-- When a requirement may be dropped on evidence, without completing a list.
use Rattle.std.specs.Prelude.{◌≡◌, ◌⊎◌, ℕ, List, Some, Contains, slice_get}
use Rattle.swreq_canonical.specs.swreq_param.declared.ids.NameId.{NameId}
use Rattle.swreq_canonical.specs.swreq_param.declared.ids.ParamId.{ParamId}
use Rattle.swreq_canonical.specs.swreq_param.declared.ids.ProtoId.{ProtoId}
use Rattle.swreq_canonical.specs.swreq_param.declared.ids.Step.TheVariants.{Bound, Name}
use Rattle.swreq_canonical.specs.swreq_param.Terms.{Term}
use Rattle.swreq_canonical.specs.swreq_param.Terms.Term.{Generic, Member}
use Rattle.swreq_canonical.specs.swreq_derive.Derivation.{TermFacts, TermRequirement, Declares}
use Rattle.swreq_canonical.specs.swreq_derive.Derivation.Source.{Written}
use Rattle.swreq_canonical.specs.swreq_derive.Derivation.TermRequirement.{Conforms, IsAnyObject, Equals}
use Rattle.swreq_canonical.specs.swreq_derive.Inheritance.{LeadsTo}
use Rattle.swreq_rounds.specs.swreq_rule.declared.rules.Rule.{Rule}
use Rattle.swreq_canonical.specs.swreq_correspondence.Symbols.{Word, Symbols, left_side, right_side}
use Rattle.swreq_canonical.specs.swreq_correspondence.Equations.{Linking}
use Rattle.swreq_rounds.specs.Presents.{ProtocolEquation}

-- A type is plain in a list: it is a generic parameter, or a bound member [P]A of a plain type of which the list holds a conformance to P
-- or to a protocol that inherits P.
abbrev pub IsPlainIn : TermFacts → List ParamId → List TermRequirement → Term → Type 0
IsPlainIn f params list (Generic g) = Contains params g
IsPlainIn f params list (Member t (Bound d)) =
    IsPlainIn f params list t
    × ((q p : ProtoId) × (a : NameId) × Contains list (Conforms t q) × LeadsTo f q p × Declares f p a d)
IsPlainIn f params list (Member t (Name a)) = ⊥

abbrev pub HasPlainTypes : TermFacts → List ParamId → List TermRequirement → TermRequirement → Type 0
HasPlainTypes f params list (Conforms t p) = IsPlainIn f params list t
HasPlainTypes f params list (IsAnyObject t) = IsPlainIn f params list t
HasPlainTypes f params list (Equals t u) = IsPlainIn f params list t × IsPlainIn f params list u

-- Every type of the list is plain in it.
abbrev pub IsPlain : TermFacts → List ParamId → List TermRequirement → Type 0
IsPlain f params list = (r : TermRequirement) → Contains list r → HasPlainTypes f params list r

-- What evidence may use: words that are congruent by the protocols alone, and the sides of the equations of the rest.
abbrev pub RestEquation : Symbols → TermFacts → List ParamId → List TermRequirement → Word → Word → Type 0
RestEquation m f params rest u v =
    Linking (ProtocolEquation m f) u v
    ⊎ ((r : TermRequirement) × Contains rest r × (u ≡ left_side m (Written params rest) r) × (v ≡ right_side m (Written params rest) r))

-- Evidence that a requirement follows from the rest is a chain of such links from the one side of its equation to the other.
abbrev pub HasEvidence : Symbols → TermFacts → List ParamId → List TermRequirement → TermRequirement → Type 0
HasEvidence m f params rest r =
    Linking (RestEquation m f params rest) (left_side m (Written params rest) r) (right_side m (Written params rest) r)

-- Each of the rules is of the protocols, or has the sides of a requirement of the rest, either way round.
abbrev pub AreRulesOfRest : Symbols → TermFacts → List ParamId → List TermRequirement → List Rule → Type 0
AreRulesOfRest m f params rest rules =
    (k : ℕ) (rule : Rule) → slice_get rules k ≡ Some rule
    → RestEquation m f params rest rule.left rule.right ⊎ RestEquation m f params rest rule.right rule.left
