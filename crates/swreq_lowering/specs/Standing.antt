-- Where the requirements of protocols and signatures stand in a text, and their order.
use Rattle.std.specs.Prelude.{◌≡◌, ℕ, ◌<◌, List, ◌++◌, Some, map, slice_get, Contains}
use Rattle.swreq_lexicon.specs.swreq_derive.Derivation.{TermRequirement}
use Rattle.swreq_lexicon.specs.swreq_derive.Derivation.TermRequirement.{Equals}
use Rattle.swreq_lexicon.specs.swreq_decl.declared.skeleton.Span.{Span}
use Rattle.swreq_lexicon.specs.swreq_decl.declared.skeleton.Entity.{Entity}
use Rattle.swreq_lexicon.specs.swreq_decl.declared.skeleton.TypeDecl.{TypeDecl}
use Rattle.swreq_lexicon.specs.swreq_decl.declared.skeleton.ReqDecl.{ReqDecl}
use Rattle.swreq_lexicon.specs.swreq_decl.declared.skeleton.ParamDecl.{ParamDecl}
use Rattle.swreq_lexicon.specs.swreq_decl.declared.skeleton.ProtocolDecl.{ProtocolDecl}
use Rattle.swreq_lexicon.specs.swreq_decl.declared.skeleton.FunctionDecl.{FunctionDecl}
use Rattle.swreq_lexicon.specs.swreq_decl.declared.skeleton.StructDecl.{StructDecl}
use Rattle.swreq_lexicon.specs.swreq_names.declared.signature.Signature.{Signature}
use Rattle.swreq_lexicon.specs.swreq_names.declared.signature.Signature.TheVariants.{Struct, Function, Nested}
use Rattle.swreq_lexicon.specs.swreq_names.Parts as parts
use Rattle.swreq_lexicon.specs.swreq_names.Parts.{Subject, Constraint}
use Rattle.swreq_lexicon.specs.swreq_names.Parts.Subject.{self_of, associated, parameter, written}
use Rattle.swreq_lexicon.specs.swreq_names.Parts.Constraint.{bound, same}
use Rattle.swreq_lowering.specs.declared.context.Context.{Context}
use Rattle.swreq_lowering.specs.declared.context.Context.TheVariants as contexts
use Rattle.swreq_lowering.specs.Requirements.{PlacedRequirement, bound_of, subject_of}
use Rattle.swreq_lowering.specs.Types.{member_named, type_in}
use Rattle.swreq_lowering.specs.Words.{WordsView, primaries_named}

-- ---- constraints

-- constraints, each with the context in which it is read
abbrev pub read_in : Context → List Constraint → List (Context × Constraint)
read_in context cs = map (λ c. (context, c)) cs

abbrev pub of_protocol : ProtocolDecl → List (Context × Constraint)
of_protocol p = read_in contexts.Protocol (parts.of_protocol p)

abbrev pub of_signature : Signature → List ParamDecl → List ReqDecl → List (Context × Constraint)
of_signature g params clause = read_in (contexts.Signature g) (parts.of_signature params clause)

abbrev pub of_struct : ℕ → StructDecl → List (Context × Constraint)
of_struct i s = of_signature (Struct i) s.params s.clause

abbrev pub of_function : ℕ → FunctionDecl → List (Context × Constraint)
of_function i f = of_signature (Function i) f.params f.clause

-- the constraints of a function in a struct: those of the struct, and then its own
abbrev pub of_nested : ℕ → StructDecl → ℕ → FunctionDecl → List (Context × Constraint)
of_nested i s j f = of_struct i s ++ of_signature (Nested i j) f.params f.clause

-- ---- places

-- the first word of what a constraint is on
abbrev pub first_word : Subject → Span
first_word (self_of p) = p
first_word (associated a) = a
first_word (parameter k g) = g
first_word (written t) = t.head

module _ (w : WordsView) where
  -- This is a primary name of the protocol, and this the argument that stands at its place.
  abbrev pub IsArgumentOf : Entity → Span → TypeDecl → Type 0
  IsArgumentOf e a u = (k : ℕ) × (slice_get (primaries_named w e.span) k ≡ Some a) × (slice_get e.args k ≡ Some u)

  -- The requirement is one of this constraint. Its sides stand at these words of the constraint, and `last` is the word with which it is
  -- written out.
  pub data IsWrittenAt (context : Context) : Constraint → TermRequirement → (left right last : Span) → Type 0 where
    -- `T: P` and `T: AnyObject` stand at the first word of T, and are written out with what stands on the right of the colon.
    of_bound : {subject : Subject} {bounds : List Entity} {e : Entity}
        → Contains bounds e
        → IsWrittenAt context (bound subject bounds) (bound_of w (subject_of w context subject) e) (first_word subject)
        (first_word subject) e.span
    -- In `T: P<U>` the equality of `T.A` with U, where A is the primary name that has U, stands at the name P and at the first word of U.
    of_argument : {subject : Subject} {bounds : List Entity} {e : Entity} {a : Span} {u : TypeDecl}
        → Contains bounds e
        → IsArgumentOf e a u
        → IsWrittenAt context (bound subject bounds)
        (Equals (member_named w (subject_of w context subject) a) (type_in w context u)) e.span u.head u.head
    -- `T == U` stands at the first words of T and of U.
    of_equality : {t u : TypeDecl}
        → IsWrittenAt context (same t u) (Equals (type_in w context t) (type_in w context u)) t.head u.head u.head

  -- The requirement is one of this constraint, its places are where its words begin, and the last of them begins at n.
  pub record StandsIn (c : Context × Constraint) (r : PlacedRequirement) (n : ℕ) : Type 0 where
    pub left : Span
    pub right : Span
    pub last : Span
    pub written : IsWrittenAt c.0 c.1 r.requirement left right last
    pub left_at : r.left_at ≡ left.start
    pub right_at : r.right_at ≡ right.start
    pub last_at : n ≡ last.start

  module _ (cs : List (Context × Constraint)) where
    -- The requirement stands in one of the constraints, and its last word begins at n.
    abbrev pub EndsAt : PlacedRequirement → ℕ → Type 0
    EndsAt r n = (c : Context × Constraint) × Contains cs c × StandsIn c r n

    -- The requirement stands in one of the constraints.
    abbrev pub StandsInOne : PlacedRequirement → Type 0
    StandsInOne r = (n : ℕ) × EndsAt r n

    -- Both requirements stand in one of the constraints, and the last word of the first stands before that of the second.
    abbrev pub InOrder : PlacedRequirement → PlacedRequirement → Type 0
    InOrder r q = (n m : ℕ) × EndsAt r n × EndsAt q m × (n < m)
