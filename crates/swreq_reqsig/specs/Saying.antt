-- What a family says of type parameters, where each is known by the name of its last member alone.
--
-- Unless the family says that a type parameter is equal to another, only two kinds of requirements say anything of it: those of type
-- parameters with the same last name, and those of `Self` in protocols to which one of these conforms. So most requirements are seen not to
-- follow from a family, since it says nothing of the kind.
use Rattle.std.specs.Prelude.{◌≡◌, ◌⊎◌, List, Contains, Option, Some, None}
use Rattle.swreq_valid.specs.swreq_param.declared.ids.NameId.{NameId}
use Rattle.swreq_valid.specs.swreq_param.declared.ids.ProtoId.{ProtoId}
use Rattle.swreq_valid.specs.swreq_param.declared.ids.Step.{Step}
use Rattle.swreq_valid.specs.swreq_param.declared.ids.Step.TheVariants.{Bound, Name}
use Rattle.swreq_valid.specs.swreq_param.Terms.{Term}
use Rattle.swreq_valid.specs.swreq_param.Terms.Term.{Generic, Member}
use Rattle.swreq_valid.specs.swreq_derive.Derivation.{Derivable, TermRequirement}
use Rattle.swreq_valid.specs.swreq_derive.Derivation.Source.{SelfOf}
use Rattle.swreq_valid.specs.swreq_derive.Derivation.TermRequirement.{Conforms, IsAnyObject, Equals}
use Rattle.swreq_valid.specs.swreq_derive.Derivation.TermStatement.{Requires}
use Rattle.swreq_valid.specs.swreq_derive.Kept.{Owned, owned_facts}
use Rattle.swreq_valid.specs.swreq_lexicon.Lexicons.{associated_types}
use Rattle.swreq_valid.specs.swreq_lexicon.Views.{LexiconView}
use Rattle.swreq_valid.specs.swreq_symbols.Meaning.{associated_at}
use Rattle.swreq_reqsig.specs.Reaching.{Reaches}

-- the name of a step
abbrev pub name_of : LexiconView → Step → NameId
name_of x (Bound d) = (associated_at x d).name
name_of x (Name a) = a

-- the name of the last member of a type parameter; a generic parameter has none
abbrev pub last_name : LexiconView → Term → Option NameId
last_name x (Generic g) = None
last_name x (Member t step) = Some (name_of x step)

module _ (x : LexiconView) (family : List Owned) where
  -- ---- what it says of type parameters with one last name

  -- It says that one of them conforms to a protocol, which reaches Q.
  pub record SaysConforms (a : Option NameId) (q : ProtoId) : Type 0 where
    pub member : Owned
    pub there : Contains family member
    pub subject : Term
    pub proto : ProtoId
    pub says : member.requirement ≡ Conforms subject proto
    pub named : last_name x subject ≡ a
    pub reaches : Reaches family proto q

  -- What a protocol requires of the type parameter is required of one of them: it has the last name itself, or it is `Self` and the family
  -- says that one of them conforms to the protocol.
  abbrev pub BearsOn : Option NameId → ProtoId → Term → Type 0
  BearsOn a p t = (last_name x t ≡ a) ⊎ ((last_name x t ≡ None) × SaysConforms a p)

  -- It says that one of them is an object.
  pub record SaysObject (a : Option NameId) : Type 0 where
    pub member : Owned
    pub there : Contains family member
    pub subject : Term
    pub says : member.requirement ≡ IsAnyObject subject
    pub bears : BearsOn a member.proto subject

  -- It says that one of them is equal to a type parameter.
  pub record SaysEqual (a : Option NameId) : Type 0 where
    pub member : Owned
    pub there : Contains family member
    pub left : Term
    pub right : Term
    pub says : member.requirement ≡ Equals left right
    pub bears : BearsOn a member.proto left ⊎ BearsOn a member.proto right

  -- ---- what it does not say

  -- It is said of `Self` that it conforms to P.
  abbrev pub IsItself : ProtoId → Term → ProtoId → Type 0
  IsItself p t q = (last_name x t ≡ None) × (q ≡ p)

  -- From [τ_0_0 : P] the requirement does not follow, since the family says nothing of the kind. It does not say of type parameters with
  -- the last name of the subject that they are equal to others, and not that one of them conforms to the protocol, or is an object. Two
  -- type parameters with two last names are not equal where the family does not say so of those with the one name, or of those with the
  -- other.
  abbrev pub IsUnsaid : ProtoId → TermRequirement → Type 0
  IsUnsaid p (Conforms t q) = (SaysEqual (last_name x t) → ⊥) × (SaysConforms (last_name x t) q → ⊥) × (IsItself p t q → ⊥)
  IsUnsaid p (IsAnyObject t) = (SaysEqual (last_name x t) → ⊥) × (SaysObject (last_name x t) → ⊥)
  IsUnsaid p (Equals t u) = (last_name x t ≡ last_name x u → ⊥)
      × ((SaysEqual (last_name x t) → ⊥) ⊎ (SaysEqual (last_name x u) → ⊥))

-- ---- the law

-- What is unsaid is not derivable.
abbrev pub UnsaidIsNotDerivable : Type 0
UnsaidIsNotDerivable = (x : LexiconView) (family : List Owned) (p : ProtoId) (r : TermRequirement) → IsUnsaid x family p r
    → Derivable (owned_facts (associated_types x.associated) family) (SelfOf p) (Requires r) → ⊥
