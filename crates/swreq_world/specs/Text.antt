-- The lists of the world of a skeleton.
use Rattle.std.specs.Prelude.{ℕ, List, [], Option, Some, None, map, slice_get}
use Rattle.swreq_lexicon.specs.swreq_decl.declared.skeleton.FunctionDecl.{FunctionDecl}
use Rattle.swreq_lexicon.specs.swreq_decl.declared.skeleton.ProtocolDecl.{ProtocolDecl}
use Rattle.swreq_lexicon.specs.swreq_decl.declared.skeleton.StructDecl.{StructDecl}
use Rattle.swreq_lexicon.specs.swreq_names.declared.signature.Signature.{Signature}
use Rattle.swreq_lexicon.specs.swreq_names.declared.signature.Signature.TheVariants.{Struct, Function, Nested}
use Rattle.swreq_lexicon.specs.swreq_names.Spaces.{word, protocol_of}
use Rattle.swreq_lowering.specs.declared.ids.FuncId.{FuncId}
use Rattle.swreq_lowering.specs.Requirements.{PlacedRequirement, in_protocol, in_struct, in_function, in_nested}
use Rattle.swreq_lowering.specs.Signatures.{functions_of, func_id, in_order, own_depth, params_of}
use Rattle.swreq_lowering.specs.Words.{WordsView, declared}
use Rattle.swreq_world.specs.Worlds.{SignatureOver}

-- the struct around a signature, where the signatures stand in this order
abbrev pub outer_of : List Signature → Signature → Option FuncId
outer_of order (Struct i) = None
outer_of order (Function i) = None
outer_of order (Nested i j) = Some (func_id order (Struct i))

module _ (w : WordsView) where
  -- ---- protocols

  abbrev pub of_protocol : Option ProtocolDecl → List PlacedRequirement
  of_protocol None = []
  of_protocol (Some p) = in_protocol w p

  abbrev pub of_place : Option ℕ → List PlacedRequirement
  of_place None = []
  of_place (Some i) = of_protocol (slice_get w.skeleton.protocols i)

  -- the requirements of the protocol of this name
  abbrev pub requirements_named : List ℕ → List PlacedRequirement
  requirements_named name = of_place (protocol_of (declared w) name)

  -- ---- signatures

  abbrev pub of_struct : ℕ → Option StructDecl → List PlacedRequirement
  of_struct i None = []
  of_struct i (Some s) = in_struct w i s

  abbrev pub of_function : ℕ → Option FunctionDecl → List PlacedRequirement
  of_function i None = []
  of_function i (Some f) = in_function w i f

  abbrev pub of_nested : ℕ → ℕ → StructDecl → Option FunctionDecl → List PlacedRequirement
  of_nested i j s None = []
  of_nested i j s (Some f) = in_nested w i s j f

  abbrev pub of_nested_in : ℕ → ℕ → Option StructDecl → List PlacedRequirement
  of_nested_in i j None = []
  of_nested_in i j (Some s) = of_nested i j s (slice_get s.functions j)

  -- the list of a signature
  abbrev pub list_of : Signature → List PlacedRequirement
  list_of (Struct i) = of_struct i (slice_get w.skeleton.structs i)
  list_of (Function i) = of_function i (slice_get w.skeleton.functions i)
  list_of (Nested i j) = of_nested_in i j (slice_get w.skeleton.structs i)

  abbrev pub struct_name : Option StructDecl → List ℕ
  struct_name None = []
  struct_name (Some s) = word w.text s.name

  abbrev pub function_name : Option FunctionDecl → List ℕ
  function_name None = []
  function_name (Some f) = word w.text f.name

  abbrev pub name_of : Signature → List ℕ
  name_of (Struct i) = struct_name (slice_get w.skeleton.structs i)
  name_of (Function i) = function_name (slice_get w.skeleton.functions i)
  name_of (Nested i j) = function_name (slice_get (functions_of (slice_get w.skeleton.structs i)) j)

  abbrev pub signature_in : List Signature → Signature → SignatureOver PlacedRequirement
  signature_in order g = record {
    signature = g;
    name = name_of g;
    outer = outer_of order g;
    own_depth = own_depth w.skeleton g;
    params = params_of w.skeleton g;
    requirements = list_of g;
  }

  -- the signatures in written order
  abbrev pub signatures : List (SignatureOver PlacedRequirement)
  signatures = map (signature_in (in_order w.skeleton)) (in_order w.skeleton)
