-- Which protocols a protocol inherits. A protocol is its place among the protocols in written order.
use Rattle.std.specs.Prelude.{◌≡◌, ℕ, ◌↔◌, Bool, cond, true, false, ◌&&◌, List, [], ◌∷◌, Option, None, Some, map, Contains, IsTrue}
use Rattle.std.specs.List.{flat_map}
use Rattle.std.specs.Option.{option_to_list}
use Rattle.std.specs.Str.{bytes_eq}
use Rattle.swreq_closure.specs.Chains.{next, Leads}
use Rattle.swreq_decl.specs.declared.skeleton.Entity.{Entity}
use Rattle.swreq_decl.specs.declared.skeleton.StepDecl.{StepDecl}
use Rattle.swreq_decl.specs.declared.skeleton.ProtocolDecl.{ProtocolDecl}
use Rattle.swreq_decl.specs.declared.skeleton.Skeleton.{Skeleton}
use Rattle.swreq_names.specs.declared.directory.Declaration.{Declaration}
use Rattle.swreq_names.specs.Parts.{Subject, Constraint, of_protocol}
use Rattle.swreq_names.specs.Parts.Subject.{self_of, associated, parameter, written}
use Rattle.swreq_names.specs.Parts.Constraint.{bound, same}
use Rattle.swreq_names.specs.Spaces.{word, place, protocol_of, Spaces, spaces, self_bytes}

abbrev pub is_bare : List StepDecl → Bool
is_bare [] = true
is_bare (s ∷ ss) = false

module _ (text : List ℕ) (d : Spaces) where
  -- the protocol that is named, if one is
  abbrev pub named_by : Entity → Option ℕ
  named_by e = cond e.layout None (protocol_of d (word text e.span))

  abbrev pub named_in : List Entity → List ℕ
  named_in es = flat_map (λ e. option_to_list (named_by e)) es

  -- whether a constraint in a protocol is on the protocol itself: an inheritance entry, or a constraint on the bare `Self`
  abbrev pub is_itself : Subject → Bool
  is_itself (self_of name) = true
  is_itself (associated name) = false
  is_itself (parameter k name) = false
  is_itself (written t) = bytes_eq self_bytes (word text t.head) && is_bare t.steps

  -- what a constraint makes the protocol inherit
  abbrev pub inherited_by : Constraint → List ℕ
  inherited_by (bound subject entities) = cond (is_itself subject) (named_in entities) []
  inherited_by (same t u) = []

  -- the protocols that this one inherits directly, in written order
  abbrev pub direct : ProtocolDecl → List ℕ
  direct p = flat_map inherited_by (of_protocol p)

-- for each protocol, the protocols that it inherits directly
abbrev pub inheritance : List ℕ → Skeleton → List (List ℕ)
inheritance text s = map (direct text (spaces text s)) s.protocols

-- The i-th protocol inherits the j-th: a chain of direct steps, one or more, leads there.
abbrev pub Inherits : List ℕ → Skeleton → ℕ → ℕ → Type 0
Inherits text s = Leads (inheritance text s)

-- The table tells which protocol inherits which.
abbrev pub TellsInheritance : List ℕ → Skeleton → (ℕ → ℕ → Bool) → Type 0
TellsInheritance text s inherits = (i j : ℕ) → IsTrue (inherits i j) ↔ Inherits text s i j

-- Each direct step leads to the first protocol of a name.
abbrev pub LeadToDeclared : List Declaration → List (List ℕ) → Type 0
LeadToDeclared protocols graph = (i j : ℕ) → Contains (next graph i) j → (name : List ℕ) × (place protocols name ≡ Some j)
