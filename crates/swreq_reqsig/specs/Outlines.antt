-- Requirements of which each type parameter is known by its last name alone, as the code goes through them.
use Rattle.std.specs.Prelude.{◌≡◌, ◌⊎◌, ◌<◌, ◌↔◌, ℕ, Bool, true, List, Option, Some, None, length, map, slice_get}
use Rattle.swreq_valid.specs.swreq_param.declared.ids.NameId.{NameId}
use Rattle.swreq_valid.specs.swreq_param.declared.ids.ProtoId.{ProtoId}
use Rattle.swreq_valid.specs.swreq_derive.Derivation.{TermRequirement}
use Rattle.swreq_valid.specs.swreq_derive.Derivation.TermRequirement.{Conforms, IsAnyObject, Equals}
use Rattle.swreq_valid.specs.swreq_derive.Kept.{Owned}
use Rattle.swreq_valid.specs.swreq_lexicon.Views.{LexiconView}
use Rattle.swreq_reqsig.specs.declared.outlines.Kind.{Kind}
use Rattle.swreq_reqsig.specs.declared.outlines.Kind.TheVariants.{IsObject, IsEqual}
use Rattle.swreq_reqsig.specs.declared.outlines.Outline.{Outline}
use Rattle.swreq_reqsig.specs.declared.outlines.Outline.TheVariants.{Conformance, Object, Equality}
use Rattle.swreq_reqsig.specs.Marks.{IsMarked}
use Rattle.swreq_reqsig.specs.Saying.{last_name}

abbrev pub outline_in : LexiconView → ProtoId → TermRequirement → Outline
outline_in x p (Conforms t q) = Conformance (last_name x t) q
outline_in x p (IsAnyObject t) = Object (last_name x t) p
outline_in x p (Equals t u) = Equality (last_name x t) (last_name x u) p

abbrev pub outline_of : LexiconView → Owned → Outline
outline_of x o = outline_in x o.proto o.requirement

abbrev pub outlines_of : LexiconView → List Owned → List Outline
outlines_of x os = map (outline_of x) os

-- ---- what one says of type parameters with one last name, where those protocols are marked to which they conform

-- What P requires of a type parameter with the one last name is required of one with the other: it is the same, or there is none and P is
-- marked.
abbrev pub BearsBy : Option NameId → List Bool → ProtoId → Option NameId → Type 0
BearsBy a marks p b = (b ≡ a) ⊎ ((b ≡ None) × IsMarked marks p)

-- It is said of one of them that it is an object.
abbrev pub IsObjectBy : Option NameId → List Bool → Outline → Type 0
IsObjectBy a marks (Conformance b q) = ⊥
IsObjectBy a marks (Object b p) = BearsBy a marks p b
IsObjectBy a marks (Equality b c p) = ⊥

-- It is said of one of them that it is equal to a type parameter.
abbrev pub IsEqualBy : Option NameId → List Bool → Outline → Type 0
IsEqualBy a marks (Conformance b q) = ⊥
IsEqualBy a marks (Object b p) = ⊥
IsEqualBy a marks (Equality b c p) = BearsBy a marks p b ⊎ BearsBy a marks p c

-- The one or the other.
abbrev pub IsSaidBy : Kind → Option NameId → List Bool → Outline → Type 0
IsSaidBy IsObject = IsObjectBy
IsSaidBy IsEqual = IsEqualBy

-- ---- one conformance

-- The protocol to which something conforms has a rank below this.
abbrev pub HasProtocolBelow : ℕ → Outline → Type 0
HasProtocolBelow bound outline = (b : Option NameId) (q : ProtoId) → outline ≡ Conformance b q → q.rank < bound

abbrev pub HaveProtocolsBelow : ℕ → List Outline → Type 0
HaveProtocolsBelow bound outlines = (k : ℕ) (outline : Outline) → slice_get outlines k ≡ Some outline → HasProtocolBelow bound outline

-- Beside those that were marked is that to which one with the last name conforms by this, where it is kept.
pub record IsMarkedToo (outline : Outline) (kept : Bool) (a : Option NameId) (old new : List Bool) : Type 0 where
  pub count : length new ≡ length old
  pub each : (q : ProtoId) → IsMarked new q ↔ (IsMarked old q ⊎ ((kept ≡ true) × (outline ≡ Conformance a q)))

-- ---- what those say whose flags are set

module _ (outlines : List Outline) (flags : List Bool) where
  -- One says of one of them that it conforms to Q.
  pub record SaysAt (a : Option NameId) (q : ProtoId) : Type 0 where
    pub place : ℕ
    pub kept : slice_get flags place ≡ Some true
    pub says : slice_get outlines place ≡ Some (Conformance a q)

  -- Just those protocols are marked to which one of them conforms by what these say.
  pub record AreSaid (a : Option NameId) (protocols : ℕ) (marks : List Bool) : Type 0 where
    pub count : length marks ≡ protocols
    pub each : (q : ProtoId) → IsMarked marks q ↔ SaysAt a q

  -- One says of one of them that it is an object, or that it is equal to a type parameter.
  pub record IsSaidAt (kind : Kind) (a : Option NameId) (marks : List Bool) : Type 0 where
    pub place : ℕ
    pub outline : Outline
    pub kept : slice_get flags place ≡ Some true
    pub there : slice_get outlines place ≡ Some outline
    pub says : IsSaidBy kind a marks outline

  -- ---- those among the first of these places

  -- The place is there.
  pub record IsAmong (places : List ℕ) (n place : ℕ) : Type 0 where
    pub at : ℕ
    pub before : at < n
    pub stands : slice_get places at ≡ Some place

  pub record SaysIn (places : List ℕ) (n : ℕ) (a : Option NameId) (q : ProtoId) : Type 0 where
    pub says : SaysAt a q
    pub among : IsAmong places n says.place

  pub record AreSaidIn (places : List ℕ) (n : ℕ) (a : Option NameId) (protocols : ℕ) (marks : List Bool) : Type 0 where
    pub count : length marks ≡ protocols
    pub each : (q : ProtoId) → IsMarked marks q ↔ SaysIn places n a q

  pub record IsSaidIn (places : List ℕ) (n : ℕ) (kind : Kind) (a : Option NameId) (marks : List Bool) : Type 0 where
    pub says : IsSaidAt kind a marks
    pub among : IsAmong places n says.place

  -- The places are of these.
  abbrev pub ArePlaces : List ℕ → Type 0
  ArePlaces places = (at k : ℕ) → slice_get places at ≡ Some k → (k < length outlines) × (k < length flags)
