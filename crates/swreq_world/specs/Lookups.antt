-- What the look-ups of a world answer.
use Rattle.std.specs.Prelude.{◌≡◌, ◌<◌, ℕ, zero, suc, Bool, true, false, List, [], ◌∷◌, length, Option, Some, None, map, slice_get}
use Rattle.std.specs.Option.{option_map}
use Rattle.swreq_param.specs.declared.ids.ParamId.{ParamId}
use Rattle.swreq_lexicon.specs.swreq_decl.declared.skeleton.ParamDecl.{ParamDecl}
use Rattle.swreq_lexicon.specs.swreq_decl.declared.skeleton.Skeleton.{Skeleton}
use Rattle.swreq_lexicon.specs.swreq_names.declared.signature.Signature.{Signature}
use Rattle.swreq_lexicon.specs.swreq_names.declared.signature.Signature.TheVariants.{Struct}
use Rattle.swreq_lexicon.specs.swreq_names.Spaces.{word, param_of}
use Rattle.swreq_lowering.specs.declared.ids.FuncId.{FuncId}
use Rattle.swreq_lowering.specs.Queries.{signature_named}
use Rattle.swreq_lowering.specs.Signatures.{func_id, outer_param_decls, own_param_decls}
use Rattle.swreq_lowering.specs.Types.{param_id}
use Rattle.swreq_world.specs.Worlds.{WorldOver, signature_at}

abbrev pub is_struct : Signature → Bool
is_struct (Struct i) = true
is_struct _ = false

-- the signatures in written order
abbrev pub order_of : {R Q : Type 0} → WorldOver R Q → List Signature
order_of w = map (λ g. g.signature) w.signatures

-- the place of the struct or function at the top of this name, or of the function of the struct `outer`
abbrev pub func_named : {R Q : Type 0} → WorldOver R Q → Option (List ℕ) → List ℕ → Option FuncId
func_named w outer name = option_map (func_id (order_of w)) (signature_named w.lexicon.resolved.declared outer name)

-- the generic parameter of a signature that a name refers to
abbrev pub param_of_signature : {R Q : Type 0} → WorldOver R Q → FuncId → List ℕ → Option ParamId
param_of_signature w f name =
    option_map (param_id (signature_at w f).own_depth) (param_of w.lexicon.resolved.declared (signature_at w f).signature name)

-- the name of the struct around a signature
abbrev pub outer_name : {R Q : Type 0} → WorldOver R Q → Option FuncId → Option (List ℕ)
outer_name w None = None
outer_name w (Some g) = Some (signature_at w g).name

-- ---- what has a name

-- The signature at this place has this name. It is a function of the struct of the other name, or, without that name, in no struct.
abbrev pub IsNamedAt : {R Q : Type 0} → WorldOver R Q → Option (List ℕ) → List ℕ → FuncId → Type 0
IsNamedAt w outer name f =
    (f.place < length w.signatures) × ((signature_at w f).name ≡ name) × (outer_name w (signature_at w f).outer ≡ outer)

-- the generic parameters of a depth, of those around a signature and its own
abbrev pub param_decls_of_depth : List ParamDecl → List ParamDecl → ℕ → List ParamDecl
param_decls_of_depth [] own zero = own
param_decls_of_depth [] own (suc d) = []
param_decls_of_depth (g ∷ gs) own zero = g ∷ gs
param_decls_of_depth (g ∷ gs) own (suc zero) = own
param_decls_of_depth (g ∷ gs) own (suc (suc d)) = []

-- the declaration of a generic parameter of a signature
abbrev pub param_declaration : Skeleton → Signature → ParamId → Option ParamDecl
param_declaration s g p = slice_get (param_decls_of_depth (outer_param_decls s g) (own_param_decls s g) p.depth) p.index

-- The generic parameter of the signature has this name.
abbrev pub IsParamNamed : List ℕ → Skeleton → Signature → List ℕ → ParamId → Type 0
IsParamNamed text s g name p = (q : ParamDecl) × (param_declaration s g p ≡ Some q) × (word text q.name ≡ name)
