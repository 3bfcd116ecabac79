-- The names that a text declares, in their spaces, and what a name refers to.
use Rattle.std.specs.Prelude.{ℕ, nat_lt, Bool, false, cond, ◌||◌, ◌&&◌, zero, suc, List, [], ◌∷◌, Option, Some, None, map, length, is_some, slice_range, slice_get, slice_index_or}
use Rattle.std.specs.List.{position_from}
use Rattle.std.specs.Option.{option_map}
use Rattle.std.specs.Str.{bytes_eq}
use Rattle.swreq_decl.specs.declared.skeleton.Span.{Span}
use Rattle.swreq_decl.specs.declared.skeleton.ParamDecl.{ParamDecl}
use Rattle.swreq_decl.specs.declared.skeleton.Skeleton.{Skeleton}
use Rattle.swreq_names.specs.declared.directory.Declaration.{Declaration}
use Rattle.swreq_names.specs.declared.signature.Signature.{Signature}
use Rattle.swreq_names.specs.declared.signature.Signature.TheVariants.{Struct, Function, Nested}
use Rattle.swreq_names.specs.declared.signature.Param.{Param}
use Rattle.swreq_names.specs.declared.signature.Param.TheVariants.{Outer, Own}

-- ---- declared names

-- the bytes of a name
abbrev pub word : List ℕ → Span → List ℕ
word text s = slice_range text s.start s.end

-- a declared name, with its offset
abbrev pub declaration : List ℕ → Span → Declaration
declaration text s = record { name = word text s; at = s.start }

abbrev pub declarations : List ℕ → List Span → List Declaration
declarations text spans = map (declaration text) spans

-- The names that a text declares, in written order.
pub record Spaces : Type 0 where
  pub protocols : List Declaration
  -- for each protocol, its associated types and its primary names
  pub members : List (List Declaration)
  pub primaries : List (List Declaration)
  pub structs : List Declaration
  -- for each struct, its generic parameters, its functions, and the generic parameters of each function
  pub struct_params : List (List Declaration)
  pub nested : List (List Declaration)
  pub nested_params : List (List (List Declaration))
  -- the functions at the top, and the generic parameters of each
  pub functions : List Declaration
  pub params : List (List Declaration)

abbrev pub of_params : List ℕ → List ParamDecl → List Declaration
of_params text params = declarations text (map (λ g. g.name) params)

abbrev pub spaces : List ℕ → Skeleton → Spaces
spaces text s = record {
  protocols = declarations text (map (λ p. p.name) s.protocols);
  members = map (λ p. declarations text (map (λ m. m.name) p.members)) s.protocols;
  primaries = map (λ p. declarations text p.primaries) s.protocols;
  structs = declarations text (map (λ t. t.name) s.structs);
  struct_params = map (λ t. of_params text t.params) s.structs;
  nested = map (λ t. declarations text (map (λ f. f.name) t.functions)) s.structs;
  nested_params = map (λ t. map (λ f. of_params text f.params) t.functions) s.structs;
  functions = declarations text (map (λ f. f.name) s.functions);
  params = map (λ f. of_params text f.params) s.functions;
}

-- ---- references

-- the bytes of `Self`
abbrev pub self_bytes : List ℕ
self_bytes = 83 ∷ 101 ∷ 108 ∷ 102 ∷ []

-- Names are compared by their bytes. A name refers to its first declaration. This is the place of that declaration in a list, from 0.
abbrev pub place : List Declaration → List ℕ → Option ℕ
place ds name = position_from (bytes_eq name) 0 (map (λ d. d.name) ds)

abbrev pub is_declared : List Declaration → List ℕ → Bool
is_declared ds name = is_some (place ds name)

abbrev pub offset_of : List Declaration → ℕ → ℕ
offset_of ds k = elim (slice_get ds k) [ None ↦ 0 | Some d ↦ d.at ]

-- The list has the name before an offset.
abbrev pub is_declared_before : List Declaration → List ℕ → ℕ → Bool
is_declared_before ds name at = elim (place ds name) [ None ↦ false | Some k ↦ nat_lt (offset_of ds k) at ]

-- what the name refers to in a space of two lists, if that is one of the first list
abbrev pub refers_to : List Declaration → List Declaration → List ℕ → Option ℕ
refers_to ds others name =
    elim (place ds name) [ None ↦ None | Some k ↦ cond (is_declared_before others name (offset_of ds k)) None (Some k) ]

-- Protocols and structs are one space.
abbrev pub protocol_of : Spaces → List ℕ → Option ℕ
protocol_of d name = refers_to d.protocols d.structs name

-- Structs and the functions at the top are one space.
abbrev pub struct_of : Spaces → List ℕ → Option ℕ
struct_of d name = refers_to d.structs d.functions name

abbrev pub function_of : Spaces → List ℕ → Option ℕ
function_of d name = refers_to d.functions d.structs name

-- the struct, or the function at the top, that a name refers to
abbrev pub signature_of : Spaces → List ℕ → Option Signature
signature_of d name = elim (struct_of d name) [ None ↦ option_map Function (function_of d name) | Some i ↦ Some (Struct i) ]

-- the function of the i-th struct that a name refers to; the functions of a struct are a space
abbrev pub nested_in : Spaces → ℕ → List ℕ → Option Signature
nested_in d i name = option_map (Nested i) (place (slice_index_or d.nested i []) name)

-- the function that a name refers to in the struct that another name refers to
abbrev pub nested_of : Spaces → List ℕ → List ℕ → Option Signature
nested_of d outer name = elim (struct_of d outer) [ None ↦ None | Some i ↦ nested_in d i name ]

-- ---- the generic parameters of a signature

-- A function of a struct has the struct's generic parameters.
abbrev pub outer_params : Spaces → Signature → List Declaration
outer_params d (Struct i) = []
outer_params d (Function i) = []
outer_params d (Nested i j) = slice_index_or d.struct_params i []

abbrev pub own_params : Spaces → Signature → List Declaration
own_params d (Struct i) = slice_index_or d.struct_params i []
own_params d (Function i) = slice_index_or d.params i []
own_params d (Nested i j) = slice_index_or (slice_index_or d.nested_params i []) j []

abbrev pub param_of : Spaces → Signature → List ℕ → Option Param
param_of d g name = elim (place (outer_params d g) name) [ None ↦ option_map Own (place (own_params d g) name) | Some k ↦ Some (Outer k) ]

-- ---- the members of a protocol

-- The i-th protocol declares the name itself.
abbrev pub declares : Spaces → ℕ → List ℕ → Bool
declares d i name = is_declared (slice_index_or d.members i []) name

-- some number below n passes the test
abbrev pub any_below : (ℕ → Bool) → ℕ → Bool
any_below test zero = false
any_below test (suc n) = test n || any_below test n

-- The i-th protocol, or one that it inherits, declares the name. `inherits i j` tells whether the i-th inherits the j-th.
abbrev pub has_member : Spaces → (ℕ → ℕ → Bool) → ℕ → List ℕ → Bool
has_member d inherits i name = declares d i name || any_below (λ j. inherits i j && declares d j name) (length d.members)
