-- Requirement signatures: which requirements of the protocols are kept.
use Rattle.std.specs.Prelude.{List, [], ◌∷◌, ◌++◌, ◌↔◌, nat_eq, if◌then◌else◌}
use Rattle.swreq_param.specs.declared.ids.ProtoId.{ProtoId}
use Rattle.swreq_derive.specs.Derivation.{TermRequirement, TermStatement, AssociatedType, TermFacts, Derivable}
use Rattle.swreq_derive.specs.Derivation.Source.{SelfOf}

-- A requirement of a protocol.
pub record Owned : Type 0 where
  pub proto : ProtoId
  pub requirement : TermRequirement

-- the requirements of P among these
abbrev pub owned_by : List Owned → ProtoId → List TermRequirement
owned_by [] p = []
owned_by (o ∷ os) p = if nat_eq o.proto.rank p.rank then o.requirement ∷ owned_by os p else owned_by os p

-- the protocols with these requirements in place of theirs
abbrev pub owned_facts : List AssociatedType → List Owned → TermFacts
owned_facts ds os = record { associated_types = ds; of_protocol = owned_by os }

-- For every protocol P the same statements are derivable from [τ_0_0 : P] with the one family and with the other.
abbrev pub DeriveTheSame : List AssociatedType → List Owned → List Owned → Type 0
DeriveTheSame ds os ks =
    (p : ProtoId) (st : TermStatement) → Derivable (owned_facts ds os) (SelfOf p) st ↔ Derivable (owned_facts ds ks) (SelfOf p) st

-- Going through a family from its last requirement to its first, each is left out without which the same is derivable. `Keeps ds front rest
-- out` says that `out` is left of `rest` where `front` stands before it and is still to come.
pub data Keeps (ds : List AssociatedType) : List Owned → List Owned → List Owned → Type 0 where
  nothing : {front : List Owned} → Keeps ds front [] []
  left_out : {front rest out : List Owned} {o : Owned} → Keeps ds (front ++ o ∷ []) rest out
      → DeriveTheSame ds (front ++ out) (front ++ (o ∷ out)) → Keeps ds front (o ∷ rest) out
  kept : {front rest out : List Owned} {o : Owned} → Keeps ds (front ++ o ∷ []) rest out
      → (DeriveTheSame ds (front ++ out) (front ++ (o ∷ out)) → ⊥) → Keeps ds front (o ∷ rest) (o ∷ out)
