-- Where numbers of requirements lead, and in which order lists of numbers are.
use Rattle.std.specs.Prelude.{◌≡◌, ℕ, ◌<◌, ◌⊎◌, List, [], ◌∷◌, length}
use Rattle.swreq_machine.specs.swreq_param.declared.ids.ProtoId.{ProtoId}
use Rattle.swreq_machine.specs.swreq_param.Terms.{Term}
use Rattle.swreq_machine.specs.swreq_derive.Derivation.{TermFacts, TermRequirement, Source, Derivable, for_self}
use Rattle.swreq_machine.specs.swreq_derive.Derivation.TermRequirement.{Conforms, Equals}
use Rattle.swreq_machine.specs.swreq_derive.Derivation.TermStatement.{Requires}
use Rattle.swreq_machine.specs.swreq_derive.Instances.{HasNumber}
use Rattle.swreq_machine.specs.swreq_derive.Paths.{NumbersBefore}

-- Where numbers of requirements have led: nowhere yet, which is before the list of a signature, or to a conformance.
pub data TermPlace : Type 0 where
  Start : TermPlace
  Conformance : (subject : Term) (proto : ProtoId) → TermPlace

-- From a place to the conformance [V : P] of its list, with the subject of the place for `Self`.
abbrev pub gone_on : TermPlace → Term → ProtoId → TermPlace
gone_on Start v p = Conformance v p
gone_on (Conformance u q) v p = Conformance (for_self u v) p

module _ (f : TermFacts) (written : List TermRequirement) where
  -- the list from which the next number is: that of the signature, or that of the protocol which the last conformance names
  abbrev pub requirements_at : TermPlace → List TermRequirement
  requirements_at Start = written
  requirements_at (Conformance u q) = f.of_protocol q

  -- The number leads from one place to the next: it is that of a conformance in the list there.
  abbrev pub GoesTo : TermPlace → ℕ → TermPlace → Type 0
  GoesTo a n b = (v : Term) × (p : ProtoId) × HasNumber n (requirements_at a) (Conforms v p) × (b ≡ gone_on a v p)

  -- The numbers lead from one place to another, one after the other.
  abbrev pub LeadTo : TermPlace → List ℕ → TermPlace → Type 0
  LeadTo a [] b = a ≡ b
  LeadTo a (n ∷ ns) b = (c : TermPlace) × GoesTo a n c × LeadTo c ns b

-- Two places are alike: they are of one protocol, their subjects are derivably equal, and the conformances are derivable.
abbrev pub AreAlike : TermFacts → Source → TermPlace → TermPlace → Type 0
AreAlike f s Start Start = Unit {0}
AreAlike f s Start (Conformance u q) = ⊥
AreAlike f s (Conformance t p) Start = ⊥
AreAlike f s (Conformance t p) (Conformance u q) = (p ≡ q) × Derivable f s (Requires (Equals t u)) × Derivable f s (Requires (Conforms u q))

-- Fewer numbers come first, and lists of the same length go from the left.
abbrev pub ComesBefore : List ℕ → List ℕ → Type 0
ComesBefore xs ys = (length xs < length ys) ⊎ ((length xs ≡ length ys) × NumbersBefore xs ys)

abbrev pub IsNotAfter : List ℕ → List ℕ → Type 0
IsNotAfter xs ys = (xs ≡ ys) ⊎ ComesBefore xs ys
