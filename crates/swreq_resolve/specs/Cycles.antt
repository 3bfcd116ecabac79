-- The first protocol that inherits itself.
use Rattle.std.specs.Prelude.{◌≡◌, ℕ, ◌<◌, true, false, length, Some, slice_get}
use Rattle.swreq_closure.specs.Chains.{Matrix, leads}
use Rattle.swreq_decl.specs.declared.skeleton.ProtocolDecl.{ProtocolDecl}
use Rattle.swreq_decl.specs.declared.skeleton.Skeleton.{Skeleton}

-- No place below this one leads to itself.
abbrev pub HasNoLoop : Matrix → ℕ → Type 0
HasNoLoop inherits count = (i : ℕ) → i < count → leads inherits i i ≡ false

-- the first of the places below this one that leads to itself
pub record IsFirstLoop (inherits : Matrix) (count i : ℕ) : Type 0 where
  pub within : i < count
  pub itself : leads inherits i i ≡ true
  pub first : (j : ℕ) → j < i → leads inherits j j ≡ false

-- The first protocol that leads to itself has its name here.
pub record IsLoopAt (inherits : Matrix) (s : Skeleton) (at : ℕ) : Type 0 where
  pub place : ℕ
  pub protocol : ProtocolDecl
  pub stands : slice_get s.protocols place ≡ Some protocol
  pub loop : IsFirstLoop inherits (length s.protocols) place
  pub is : at ≡ protocol.name.start
