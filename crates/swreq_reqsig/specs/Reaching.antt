-- Which protocols a protocol reaches, and the part of a family that is of these.
use Rattle.std.specs.Prelude.{◌≡◌, ◌↔◌, ℕ, Bool, true, List, Contains, Some, length, slice_get}
use Rattle.swreq_valid.specs.swreq_param.declared.ids.ProtoId.{ProtoId}
use Rattle.swreq_valid.specs.swreq_param.Terms.{Term}
use Rattle.swreq_valid.specs.swreq_derive.Derivation.{AssociatedType, Derivable, TermStatement}
use Rattle.swreq_valid.specs.swreq_derive.Derivation.Source.{SelfOf}
use Rattle.swreq_valid.specs.swreq_derive.Derivation.TermRequirement.{Conforms}
use Rattle.swreq_valid.specs.swreq_derive.Derivation.TermStatement.{Requires}
use Rattle.swreq_valid.specs.swreq_derive.Kept.{Owned, owned_facts}
use Rattle.swreq_valid.specs.Flags.{chosen}
use Rattle.swreq_reqsig.specs.Families.{own}

-- By the requirements of a family P reaches itself, and with a protocol each to which something conforms by a requirement of that protocol.
pub data Reaches (family : List Owned) (p : ProtoId) : ProtoId → Type 0 where
  itself : {q : ProtoId} → q ≡ p → Reaches family p q
  by_conformance : {q r : ProtoId} {u : Term} → Reaches family p q → Contains family (own q (Conforms u r)) → Reaches family p r

-- These are the members of the family whose protocol P reaches.
abbrev pub IsReachedPart : List Owned → ProtoId → List Owned → Type 0
IsReachedPart family p part = (o : Owned) → Contains part o ↔ (Contains family o × Reaches family p o.proto)

-- These are the flags of the part that P reaches of the family of the requirements whose flags are set.
pub record AreReachedFlags (all : List Owned) (flags : List Bool) (p : ProtoId) (part : List Bool) : Type 0 where
  pub count : length part ≡ length all
  pub each : (n : ℕ) (o : Owned) → slice_get all n ≡ Some o
      → (slice_get part n ≡ Some true) ↔ ((slice_get flags n ≡ Some true) × Reaches (chosen all flags) p o.proto)

-- ---- laws

-- From [τ_0_0 : P] just the same statements are derivable with a family and with its part that P reaches.
abbrev pub DerivesByReach : Type 0
DerivesByReach = (ds : List AssociatedType) (family part : List Owned) (p : ProtoId) → IsReachedPart family p part → (st : TermStatement)
    → Derivable (owned_facts ds family) (SelfOf p) st ↔ Derivable (owned_facts ds part) (SelfOf p) st

-- No conformance is derivable from [τ_0_0 : P] to a protocol that P does not reach.
abbrev pub ConformsByReach : Type 0
ConformsByReach = (ds : List AssociatedType) (family : List Owned) (p q : ProtoId) (t : Term)
    → Derivable (owned_facts ds family) (SelfOf p) (Requires (Conforms t q)) → Reaches family p q

-- The flags of the part give the part.
abbrev pub FlagsGivePart : Type 0
FlagsGivePart = (all : List Owned) (flags part : List Bool) (p : ProtoId) → AreReachedFlags all flags p part
    → IsReachedPart (chosen all flags) p (chosen all part)
