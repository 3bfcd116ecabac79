-- What a text declares, and which protocol inherits which.
use Rattle.std.specs.Prelude.{◌≡◌, ℕ, List, length}
use Rattle.swreq_closure.specs.Chains.{IsOfPlaces, Matrix, leads}
use Rattle.swreq_decl.specs.declared.skeleton.Skeleton.{Skeleton}
use Rattle.swreq_names.specs.Spaces.{Spaces, spaces}
use Rattle.swreq_names.specs.Inheritance.{TellsInheritance, inheritance}

-- what contracts see of the names of a text
pub record NamesView : Type 0 where
  pub declared : Spaces
  -- for each protocol, in written order, the protocols that it inherits directly
  pub direct : List (List ℕ)
  pub inherits : Matrix

-- These are the names of the skeleton: what it declares, which protocols each one inherits directly, and which protocol inherits which.
pub record HasDeclared (text : List ℕ) (s : Skeleton) (n : NamesView) : Type 0 where
  pub declared : n.declared ≡ spaces text s
  pub direct : n.direct ≡ inheritance text s
  pub tells : TellsInheritance text s (leads n.inherits)
  pub places : IsOfPlaces (length s.protocols) n.inherits
