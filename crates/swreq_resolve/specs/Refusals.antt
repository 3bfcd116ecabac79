-- The names of a skeleton that are refused, as a list in the order in which the code looks at them. `Refused` says which they are.
use Rattle.std.specs.Prelude.{ℕ, nat_eq, Bool, true, cond, not, ◌||◌, List, [], ◌∷◌, ◌++◌, Option, Some, None, is_some, slice_index_or, length, ◌+◌}
use Rattle.std.specs.List.{flat_map}
use Rattle.std.specs.Str.{bytes_eq}
use Rattle.swreq_decl.specs.declared.skeleton.Span.{Span}
use Rattle.swreq_decl.specs.declared.skeleton.Entity.{Entity}
use Rattle.swreq_decl.specs.declared.skeleton.StepDecl.{StepDecl}
use Rattle.swreq_decl.specs.declared.skeleton.StepDecl.TheVariants as steps
use Rattle.swreq_decl.specs.declared.skeleton.TypeDecl.{TypeDecl}
use Rattle.swreq_decl.specs.declared.skeleton.ReqDecl.{ReqDecl}
use Rattle.swreq_decl.specs.declared.skeleton.ReqDecl.TheVariants as requirements
use Rattle.swreq_decl.specs.declared.skeleton.AssocDecl.{AssocDecl}
use Rattle.swreq_decl.specs.declared.skeleton.ProtocolDecl.{ProtocolDecl}
use Rattle.swreq_decl.specs.declared.skeleton.ParamDecl.{ParamDecl}
use Rattle.swreq_decl.specs.declared.skeleton.FunctionDecl.{FunctionDecl}
use Rattle.swreq_decl.specs.declared.skeleton.StructDecl.{StructDecl}
use Rattle.swreq_decl.specs.declared.skeleton.Ask.{Ask}
use Rattle.swreq_decl.specs.declared.skeleton.Ask.TheVariants as asks
use Rattle.swreq_decl.specs.declared.skeleton.QueryDecl.{QueryDecl}
use Rattle.swreq_decl.specs.declared.skeleton.Skeleton.{Skeleton}
use Rattle.swreq_names.specs.declared.directory.Declaration.{Declaration}
use Rattle.swreq_names.specs.declared.signature.Signature.{Signature}
use Rattle.swreq_names.specs.declared.signature.Signature.TheVariants.{Struct, Function, Nested}
use Rattle.swreq_resolve.specs.declared.refusal.Refusal.{Refusal}
use Rattle.swreq_resolve.specs.declared.refusal.Fault.TheVariants.{Duplicate, NotAProtocol, ConcreteType, NoSuchMember, UnknownSignature, WrongArity}
use Rattle.swreq_resolve.specs.First.{when}
use Rattle.swreq_names.specs.Spaces.{self_bytes, word, is_declared_before, protocol_of, struct_of, signature_of, nested_in, outer_params, own_params, param_of, declares, has_member, Spaces, spaces}

-- each item with its place, which begins from i
abbrev pub by_place : {A B : Type 0} → (ℕ → A → List B) → ℕ → List A → List B
by_place f i [] = []
by_place f i (x ∷ xs) = f i x ++ by_place f (i + 1) xs

-- A name is declared twice where a list of its space has it before.
abbrev pub duplicate_of : List Declaration → Declaration → List Refusal
duplicate_of space d = when (is_declared_before space d.name d.at) Duplicate d.at

abbrev pub duplicates : List Declaration → List Declaration → List Refusal
duplicates space ds = flat_map (duplicate_of space) ds

-- two lists that are one space
abbrev pub of_space : List Declaration → List Declaration → List Refusal
of_space ds es = duplicates ds ds ++ (duplicates es ds ++ (duplicates ds es ++ duplicates es es))

-- A type in the i-th protocol begins with `Self` or with a member name of the protocol.
abbrev pub begins_in_protocol : Spaces → (ℕ → ℕ → Bool) → ℕ → List ℕ → Bool
begins_in_protocol d inherits i name = bytes_eq self_bytes name || has_member d inherits i name

-- A type in a signature begins with a generic parameter of it.
abbrev pub begins_in_signature : Spaces → Signature → List ℕ → Bool
begins_in_signature d g name = is_some (param_of d g name)

-- Arguments are as many as the primary names of the i-th protocol, or none.
abbrev pub has_arity : Spaces → ℕ → ℕ → Bool
has_arity d i count = nat_eq count 0 || nat_eq count (length (slice_index_or d.primaries i []))

-- What stands for a protocol has to be one, with as many arguments as it has primary names if it has any.
abbrev pub of_protocol_name : Spaces → Span → ℕ → Option ℕ → List Refusal
of_protocol_name d p count None = when true NotAProtocol p.start
of_protocol_name d p count (Some i) = when (not (has_arity d i count)) WrongArity p.start

-- A primary name is a member name of its protocol.
abbrev pub primary_of : Spaces → (ℕ → ℕ → Bool) → ℕ → Declaration → List Refusal
primary_of d inherits i a = when (not (has_member d inherits i a.name)) NoSuchMember a.at

-- the primary names of the i-th protocol
abbrev pub of_primaries : Spaces → (ℕ → ℕ → Bool) → ℕ → List Refusal
of_primaries d inherits i =
    let primaries : List Declaration = slice_index_or d.primaries i [] in
    duplicates primaries primaries ++ flat_map (primary_of d inherits i) primaries

module _ (text : List ℕ) (d : Spaces) where
  -- In `.[P]A` P has to be a protocol, and has to declare A itself.
  abbrev pub of_bound : Span → Span → Option ℕ → List Refusal
  of_bound p a None = when true NotAProtocol p.start
  of_bound p a (Some i) = when (not (declares d i (word text a))) NoSuchMember a.start

  abbrev pub of_step : StepDecl → List Refusal
  of_step (steps.Plain a) = []
  of_step (steps.Bound p a) = of_bound p a (protocol_of d (word text p))

  abbrev pub of_named : Entity → List Refusal
  of_named e = cond e.layout [] (of_protocol_name d e.span (length e.args) (protocol_of d (word text e.span)))

  -- begins: what a type here may begin with
  module _ (begins : List ℕ → Bool) where
    abbrev pub of_type : TypeDecl → List Refusal
    of_type t = when (not (begins (word text t.head))) ConcreteType t.head.start ++ flat_map of_step t.steps

    -- The arguments are looked at, whatever stands before them.
    abbrev pub of_entity : Entity → List Refusal
    of_entity e = of_named e ++ flat_map of_type e.args

    abbrev pub of_requirement : ReqDecl → List Refusal
    of_requirement (requirements.Bound t bounds) = of_type t ++ flat_map of_entity bounds
    of_requirement (requirements.Same t u) = of_type t ++ of_type u

    abbrev pub of_member : AssocDecl → List Refusal
    of_member m = flat_map of_entity m.inherits ++ flat_map of_requirement m.clause

    abbrev pub of_param : ParamDecl → List Refusal
    of_param g = flat_map of_entity g.bounds

    abbrev pub of_ask : Ask → List Refusal
    of_ask asks.Signature = []
    of_ask (asks.Reduced t) = of_type t
    of_ask (asks.Is t bound) = of_type t ++ of_entity bound
    of_ask (asks.Same t u) = of_type t ++ of_type u

  -- the associated types of the i-th protocol
  abbrev pub of_members : (List ℕ → Bool) → ℕ → List AssocDecl → List Refusal
  of_members begins i ms =
      let members : List Declaration = slice_index_or d.members i [] in
      duplicates members members ++ flat_map (of_member begins) ms

  -- the i-th protocol
  abbrev pub of_protocol : (ℕ → ℕ → Bool) → ℕ → ProtocolDecl → List Refusal
  of_protocol inherits i p =
      let begins : List ℕ → Bool = begins_in_protocol d inherits i in
      of_primaries d inherits i
      ++ (flat_map (of_entity begins) p.inherits ++ (flat_map (of_requirement begins) p.clause ++ of_members begins i p.members))

  -- Generic parameters are told apart within a signature, also from those of the struct around it.
  abbrev pub of_signature : Signature → List ParamDecl → List ReqDecl → List Refusal
  of_signature g params clause =
      let begins : List ℕ → Bool = begins_in_signature d g in
      duplicates (own_params d g) (own_params d g) ++ (duplicates (outer_params d g) (own_params d g)
      ++ (flat_map (of_param begins) params ++ flat_map (of_requirement begins) clause))

  -- the i-th function at the top
  abbrev pub of_function : ℕ → FunctionDecl → List Refusal
  of_function i f = of_signature (Function i) f.params f.clause

  -- the j-th function of the i-th struct
  abbrev pub of_nested : ℕ → ℕ → FunctionDecl → List Refusal
  of_nested i j f = of_signature (Nested i j) f.params f.clause

  -- the i-th struct
  abbrev pub of_struct : ℕ → StructDecl → List Refusal
  of_struct i s =
      let nested : List Declaration = slice_index_or d.nested i [] in
      of_signature (Struct i) s.params s.clause ++ (duplicates nested nested ++ by_place (of_nested i) 0 s.functions)

  -- The rest of a query on no signature is not looked at.
  abbrev pub of_asked : QueryDecl → Option Signature → List Refusal
  of_asked q None = when true UnknownSignature q.function.start
  of_asked q (Some g) = of_ask (begins_in_signature d g) q.ask

  -- a query on a function of what has this name
  abbrev pub of_nested_query : QueryDecl → Span → Option ℕ → List Refusal
  of_nested_query q outer None = when true UnknownSignature outer.start
  of_nested_query q outer (Some i) = of_asked q (nested_in d i (word text q.function))

  abbrev pub of_query_in : QueryDecl → Option Span → List Refusal
  of_query_in q None = of_asked q (signature_of d (word text q.function))
  of_query_in q (Some outer) = of_nested_query q outer (struct_of d (word text outer))

  abbrev pub of_query : QueryDecl → List Refusal
  of_query q = of_query_in q q.outer

-- Protocols and structs are one space, and structs and the functions at the top another.
abbrev pub of_spaces : Spaces → List Refusal
of_spaces d = of_space d.protocols d.structs ++ of_space d.structs d.functions

abbrev pub of_signatures : List ℕ → Spaces → Skeleton → List Refusal
of_signatures text d s = by_place (of_struct text d) 0 s.structs ++ by_place (of_function text d) 0 s.functions

-- all names that are refused, where d has the declared names
abbrev pub refusals_in : List ℕ → Spaces → (ℕ → ℕ → Bool) → Skeleton → List Refusal
refusals_in text d inherits s =
    of_spaces d
    ++ (by_place (of_protocol text d inherits) 0 s.protocols ++ (of_signatures text d s ++ flat_map (of_query text d) s.queries))

abbrev pub refusals : List ℕ → (ℕ → ℕ → Bool) → Skeleton → List Refusal
refusals text inherits s = refusals_in text (spaces text s) inherits s
