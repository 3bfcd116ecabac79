-- Which names of one type on a signature of a text are refused, and as what. The type may be written in another text.
use Rattle.std.specs.Prelude.{ℕ, List, Contains}
use Rattle.swreq_decl.specs.declared.skeleton.Span.{Span}
use Rattle.swreq_decl.specs.declared.skeleton.StepDecl.TheVariants as steps
use Rattle.swreq_decl.specs.declared.skeleton.TypeDecl.{TypeDecl}
use Rattle.swreq_decl.specs.declared.skeleton.Skeleton.{Skeleton}
use Rattle.swreq_names.specs.declared.signature.Signature.{Signature}
use Rattle.swreq_names.specs.Spaces.{word, Spaces}
use Rattle.swreq_resolve.specs.declared.refusal.Fault.TheVariants.{NotAProtocol, ConcreteType, NoSuchMember}
use Rattle.swreq_resolve.specs.declared.refusal.Refusal.{Refusal}
use Rattle.swreq_resolve.specs.Refused.{DeclaresName, HasParameter, MeansProtocol, refused}
use Rattle.swreq_resolve.specs.Refusals.{begins_in_signature, of_type}

-- A name is refused of a type on the signature g of the text, which is written in these bytes.
pub data IsRefusedOn (text : List ℕ) (s : Skeleton) (g : Signature) (written : List ℕ) (t : TypeDecl) : Refusal → Type 0 where
  -- Its first word is a generic parameter of the signature, or of the struct around the function.
  concrete : (HasParameter text s g (word written t.head) → ⊥)
      → IsRefusedOn text s g written t (refused ConcreteType t.head.start)
  -- In brackets stands a protocol, by its first declaration among protocols and structs.
  no_protocol_before : {p a : Span}
      → Contains t.steps (steps.Bound p a)
      → ((i : ℕ) → MeansProtocol text s (word written p) i → ⊥)
      → IsRefusedOn text s g written t (refused NotAProtocol p.start)
  -- In `[P]A`, where P is a protocol, A is an associated type that P itself declares.
  no_member_of : {p a : Span} {i : ℕ}
      → Contains t.steps (steps.Bound p a)
      → MeansProtocol text s (word written p) i
      → (DeclaresName text s i (word written a) → ⊥)
      → IsRefusedOn text s g written t (refused NoSuchMember a.start)

-- the refusals of it, where d has the declared names
abbrev pub of_type_on : Spaces → Signature → List ℕ → TypeDecl → List Refusal
of_type_on d g written t = of_type written d (begins_in_signature d g) t
