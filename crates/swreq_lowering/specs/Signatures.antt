-- The generic parameters of signatures, and the order of signatures.
use Rattle.std.specs.Prelude.{ℕ, ◌+◌, ◌&&◌, nat_eq, Bool, false, List, [], ◌∷◌, ◌++◌, zero, suc, length, drop, unwrap_or, Option, Some, None, slice_get}
use Rattle.std.specs.List.{position_from, prefix_len}
use Rattle.swreq_lexicon.specs.swreq_derive.declared.known.Params.{Params}
use Rattle.swreq_lexicon.specs.swreq_decl.declared.skeleton.FunctionDecl.{FunctionDecl}
use Rattle.swreq_lexicon.specs.swreq_decl.declared.skeleton.ParamDecl.{ParamDecl}
use Rattle.swreq_lexicon.specs.swreq_decl.declared.skeleton.StructDecl.{StructDecl}
use Rattle.swreq_lexicon.specs.swreq_decl.declared.skeleton.Skeleton.{Skeleton}
use Rattle.swreq_lexicon.specs.swreq_decl.Signatures.{stands_before}
use Rattle.swreq_lexicon.specs.swreq_names.declared.signature.Signature.{Signature}
use Rattle.swreq_lexicon.specs.swreq_names.declared.signature.Signature.TheVariants.{Struct, Function, Nested}
use Rattle.swreq_lowering.specs.declared.ids.FuncId.{FuncId}

-- ---- generic parameters

abbrev pub params_of_struct : Option StructDecl → List ParamDecl
params_of_struct None = []
params_of_struct (Some s) = s.params

abbrev pub functions_of : Option StructDecl → List FunctionDecl
functions_of None = []
functions_of (Some s) = s.functions

abbrev pub params_of_function : Option FunctionDecl → List ParamDecl
params_of_function None = []
params_of_function (Some f) = f.params

-- A function of a struct has the struct's generic parameters.
abbrev pub outer_param_decls : Skeleton → Signature → List ParamDecl
outer_param_decls s (Struct i) = []
outer_param_decls s (Function i) = []
outer_param_decls s (Nested i j) = params_of_struct (slice_get s.structs i)

abbrev pub own_param_decls : Skeleton → Signature → List ParamDecl
own_param_decls s (Struct i) = params_of_struct (slice_get s.structs i)
own_param_decls s (Function i) = params_of_function (slice_get s.functions i)
own_param_decls s (Nested i j) = params_of_function (slice_get (functions_of (slice_get s.structs i)) j)

-- The depth of generic parameters within others: 1, or 0 where there are no others.
abbrev pub depth_within : List ParamDecl → ℕ
depth_within [] = 0
depth_within (g ∷ gs) = 1

-- A signature's own generic parameters have depth 1 where it is a function of a struct that has generic parameters, and otherwise depth 0.
abbrev pub own_depth : Skeleton → Signature → ℕ
own_depth s g = depth_within (outer_param_decls s g)

-- how many have depth 0 and depth 1
abbrev pub counts : List ParamDecl → List ParamDecl → Params
counts [] own = record { outer = length own; inner = 0 }
counts (g ∷ gs) own = record { outer = length (g ∷ gs); inner = length own }

-- the generic parameters of a signature
abbrev pub params_of : Skeleton → Signature → Params
params_of s g = counts (outer_param_decls s g) (own_param_decls s g)

-- ---- the order

-- n functions of the i-th struct, from the j-th on
abbrev pub nested_from : ℕ → ℕ → ℕ → List Signature
nested_from i j zero = []
nested_from i j (suc n) = Nested i j ∷ nested_from i (j + 1) n

-- n functions at the top, from the k-th on
abbrev pub functions_from : ℕ → ℕ → List Signature
functions_from k zero = []
functions_from k (suc n) = Function k ∷ functions_from (k + 1) n

-- a struct before its functions
abbrev pub with_nested : ℕ → StructDecl → List Signature
with_nested i s = Struct i ∷ nested_from i 0 (length s.functions)

-- The structs from the i-th on and the functions at the top from the k-th on: before each struct the functions that stand before it.
abbrev pub merged_from : ℕ → List StructDecl → ℕ → List FunctionDecl → List Signature
merged_from i [] k fs = functions_from k (length fs)
merged_from i (s ∷ ss) k fs =
    let n : ℕ = prefix_len (stands_before s) fs in
    functions_from k n ++ (with_nested i s ++ merged_from (i + 1) ss (k + n) (drop n fs))

-- the signatures of a text in written order
abbrev pub in_order : Skeleton → List Signature
in_order s = merged_from 0 s.structs 0 s.functions

abbrev pub is_signature : Signature → Signature → Bool
is_signature (Struct i) (Struct k) = nat_eq i k
is_signature (Function i) (Function k) = nat_eq i k
is_signature (Nested i j) (Nested k l) = nat_eq i k && nat_eq j l
is_signature _ _ = false

-- the first place of a signature, if it has one
abbrev pub place_in : List Signature → Signature → Option ℕ
place_in order g = position_from (is_signature g) 0 order

-- The place of a signature in written order: the functions of a struct follow it. For a struct or a function at the top that has no place
-- it is 0; where the names of a text resolve, each signature that is asked has one.
abbrev pub func_id : List Signature → Signature → FuncId
func_id order (Struct i) = record { place = unwrap_or (place_in order (Struct i)) 0 }
func_id order (Function i) = record { place = unwrap_or (place_in order (Function i)) 0 }
func_id order (Nested i j) = record { place = unwrap_or (place_in order (Struct i)) 0 + (1 + j) }
