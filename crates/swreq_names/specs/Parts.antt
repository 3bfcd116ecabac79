-- The parts of a text that say something of types: its constraints and its written types, each with the scope in which it stands. The parts
-- of one protocol or signature stand in written order. The parts of protocols come before those of structs, functions and queries.
use Rattle.std.specs.Prelude.{ℕ, ◌+◌, List, [], ◌∷◌, ◌++◌, map}
use Rattle.std.specs.List.{flat_map}
use Rattle.swreq_decl.specs.declared.skeleton.Span.{Span}
use Rattle.swreq_decl.specs.declared.skeleton.Entity.{Entity}
use Rattle.swreq_decl.specs.declared.skeleton.TypeDecl.{TypeDecl}
use Rattle.swreq_decl.specs.declared.skeleton.ReqDecl.{ReqDecl}
use Rattle.swreq_decl.specs.declared.skeleton.ReqDecl.TheVariants as requirements
use Rattle.swreq_decl.specs.declared.skeleton.AssocDecl.{AssocDecl}
use Rattle.swreq_decl.specs.declared.skeleton.ProtocolDecl.{ProtocolDecl}
use Rattle.swreq_decl.specs.declared.skeleton.ParamDecl.{ParamDecl}
use Rattle.swreq_decl.specs.declared.skeleton.FunctionDecl.{FunctionDecl}
use Rattle.swreq_decl.specs.declared.skeleton.StructDecl.{StructDecl}
use Rattle.swreq_decl.specs.declared.skeleton.Ask.{Ask}
use Rattle.swreq_decl.specs.declared.skeleton.Ask.TheVariants as asks
use Rattle.swreq_decl.specs.declared.skeleton.QueryDecl.{QueryDecl}
use Rattle.swreq_decl.specs.declared.skeleton.Skeleton.{Skeleton}
use Rattle.swreq_names.specs.declared.signature.Signature.{Signature}
use Rattle.swreq_names.specs.declared.signature.Signature.TheVariants.{Struct, Function, Nested}

-- ---- constraints

-- What a constraint is on: `Self` in a protocol of this name, the associated type of this name, the k-th of a signature's own generic
-- parameters, which has this name, or a written type.
pub data Subject : Type 0 where
  self_of : Span → Subject
  associated : Span → Subject
  parameter : ℕ → Span → Subject
  written : TypeDecl → Subject

-- `T: P & Q`, or an inheritance entry with what stands after its colon; and `T == U`.
pub data Constraint : Type 0 where
  bound : Subject → List Entity → Constraint
  same : TypeDecl → TypeDecl → Constraint

abbrev pub of_requirement : ReqDecl → Constraint
of_requirement (requirements.Bound t bounds) = bound (written t) bounds
of_requirement (requirements.Same t u) = same t u

abbrev pub of_clause : List ReqDecl → List Constraint
of_clause rs = map of_requirement rs

abbrev pub of_member : AssocDecl → List Constraint
of_member m = bound (associated m.name) m.inherits ∷ of_clause m.clause

-- the constraints of a protocol
abbrev pub of_protocol : ProtocolDecl → List Constraint
of_protocol p = bound (self_of p.name) p.inherits ∷ (of_clause p.clause ++ flat_map of_member p.members)

-- each item with its place, counted from i
abbrev pub numbered : {A : Type 0} → ℕ → List A → List (ℕ × A)
numbered i [] = []
numbered i (x ∷ xs) = (i, x) ∷ numbered (i + 1) xs

abbrev pub of_param : ℕ × ParamDecl → Constraint
of_param g = bound (parameter g.0 g.1.name) g.1.bounds

-- the constraints of a signature, without those of the struct around it
abbrev pub of_signature : List ParamDecl → List ReqDecl → List Constraint
of_signature params clause = map of_param (numbered 0 params) ++ of_clause clause

-- ---- scopes

-- a part stands in a protocol, by its place among the protocols, in a signature, or in a query, by its place among the queries
pub data Scope : Type 0 where
  in_protocol : ℕ → Scope
  in_signature : Signature → Scope
  in_query : ℕ → Scope

abbrev pub standing : {A : Type 0} → Scope → List A → List (Scope × A)
standing scope parts = map (λ part. (scope, part)) parts

abbrev pub in_protocol_at : ℕ × ProtocolDecl → List (Scope × Constraint)
in_protocol_at p = standing (in_protocol p.0) (of_protocol p.1)

abbrev pub in_nested_at : ℕ → ℕ × FunctionDecl → List (Scope × Constraint)
in_nested_at i f = standing (in_signature (Nested i f.0)) (of_signature f.1.params f.1.clause)

-- the constraints of a struct, and then those of its functions
abbrev pub in_struct_at : ℕ × StructDecl → List (Scope × Constraint)
in_struct_at t =
    standing (in_signature (Struct t.0)) (of_signature t.1.params t.1.clause) ++ flat_map (in_nested_at t.0) (numbered 0 t.1.functions)

abbrev pub in_function_at : ℕ × FunctionDecl → List (Scope × Constraint)
in_function_at f = standing (in_signature (Function f.0)) (of_signature f.1.params f.1.clause)

-- the constraints of a text: those of protocols, of structs and of functions, each in written order
abbrev pub constraints : Skeleton → List (Scope × Constraint)
constraints s =
    flat_map in_protocol_at (numbered 0 s.protocols)
    ++ (flat_map in_struct_at (numbered 0 s.structs) ++ flat_map in_function_at (numbered 0 s.functions))

-- ---- written types

-- the arguments of `P<U, V>`
abbrev pub types_of_entity : Entity → List TypeDecl
types_of_entity e = e.args

abbrev pub types_of_subject : Subject → List TypeDecl
types_of_subject (written t) = t ∷ []
types_of_subject _ = []

abbrev pub types_of : Constraint → List TypeDecl
types_of (bound subject bounds) = types_of_subject subject ++ flat_map types_of_entity bounds
types_of (same t u) = t ∷ u ∷ []

-- the types of what a query asks
abbrev pub types_of_ask : Ask → List TypeDecl
types_of_ask asks.Signature = []
types_of_ask (asks.Reduced t) = t ∷ []
types_of_ask (asks.Is t e) = t ∷ types_of_entity e
types_of_ask (asks.Same t u) = t ∷ u ∷ []

abbrev pub types_at : Scope × Constraint → List (Scope × TypeDecl)
types_at c = standing c.0 (types_of c.1)

abbrev pub asked_at : ℕ × QueryDecl → List (Scope × TypeDecl)
asked_at q = standing (in_query q.0) (types_of_ask q.1.ask)

-- all types that are written in a text, those of its declarations and those of its queries
abbrev pub types : Skeleton → List (Scope × TypeDecl)
types s = flat_map types_at (constraints s) ++ flat_map asked_at (numbered 0 s.queries)

-- ---- entities

-- what stands on the right of the colon
abbrev pub entities_of : Constraint → List Entity
entities_of (bound subject bounds) = bounds
entities_of (same t u) = []

abbrev pub entities_of_ask : Ask → List Entity
entities_of_ask (asks.Is t e) = e ∷ []
entities_of_ask _ = []

abbrev pub entities_at : Scope × Constraint → List (Scope × Entity)
entities_at c = standing c.0 (entities_of c.1)

abbrev pub asked_entities_at : ℕ × QueryDecl → List (Scope × Entity)
asked_entities_at q = standing (in_query q.0) (entities_of_ask q.1.ask)

-- all that stands on the right of a colon in a text, in its declarations and in its queries
abbrev pub entities : Skeleton → List (Scope × Entity)
entities s = flat_map entities_at (constraints s) ++ flat_map asked_entities_at (numbered 0 s.queries)
