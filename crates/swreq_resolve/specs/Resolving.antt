-- Whether the names of a skeleton resolve, and what is refused where they do not.
use Rattle.std.specs.Prelude.{◌≡◌, ◌⊎◌, ℕ, ◌<◌, Bool, List, [], slice_get, Some}
use Rattle.swreq_decl.specs.declared.skeleton.ProtocolDecl.{ProtocolDecl}
use Rattle.swreq_decl.specs.declared.skeleton.Skeleton.{Skeleton}
use Rattle.swreq_names.specs.Inheritance.{Inherits, TellsInheritance}
use Rattle.swreq_resolve.specs.declared.refusal.Refusal.{Refusal}
use Rattle.swreq_resolve.specs.declared.refusal.NameErr.{NameErr}
use Rattle.swreq_resolve.specs.declared.refusal.NameErr.TheVariants.{Cycle}
use Rattle.swreq_resolve.specs.Errors.{error_of}
use Rattle.swreq_resolve.specs.First.{IsFirst}
use Rattle.swreq_resolve.specs.Refusals.{refusals}

-- No name is refused.
pub record HasNames (text : List ℕ) (s : Skeleton) : Type 0 where
  pub inherits : ℕ → ℕ → Bool
  pub tells : TellsInheritance text s inherits
  pub none : refusals text inherits s ≡ []

-- The names resolve, and no protocol inherits itself.
pub record Resolve (text : List ℕ) (s : Skeleton) : Type 0 where
  pub names : HasNames text s
  pub no_cycle : (i : ℕ) → Inherits text s i i → ⊥

-- This is the first of the refusals of names.
pub record RefusesName (text : List ℕ) (s : Skeleton) (r : Refusal) : Type 0 where
  pub inherits : ℕ → ℕ → Bool
  pub tells : TellsInheritance text s inherits
  pub first : IsFirst (refusals text inherits s) r

-- The protocol at this place in written order is the first that inherits itself.
pub record IsFirstCycle (text : List ℕ) (s : Skeleton) (i : ℕ) : Type 0 where
  pub itself : Inherits text s i i
  pub first : (j : ℕ) → j < i → Inherits text s j j → ⊥

-- No name is refused, and the first protocol that inherits itself has its name here.
pub record RefusesCycle (text : List ℕ) (s : Skeleton) (at : ℕ) : Type 0 where
  pub names : HasNames text s
  pub place : ℕ
  pub protocol : ProtocolDecl
  pub stands : slice_get s.protocols place ≡ Some protocol
  pub cycle : IsFirstCycle text s place
  pub is : at ≡ protocol.name.start

-- The error says which name is refused first, or, where none is, that a protocol inherits itself.
abbrev pub RefusesSkeleton : List ℕ → Skeleton → NameErr → Type 0
RefusesSkeleton text s e = ((r : Refusal) × RefusesName text s r × (e ≡ error_of r)) ⊎ ((at : ℕ) × RefusesCycle text s at × (e ≡ Cycle at))
