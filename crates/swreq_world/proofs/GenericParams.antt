-- The generic parameters of signatures.
use Rattle.std.proofs.Common.{◌≡◌, ℕ, zero, suc, ◌<◌, ◌≤◌, ⊎_elim, true, List, [], ◌∷◌, Option, Some, None, is_some, unwrap_or, length, get_or, map, slice_get, refl, ap, ◌∙◌, arith}
use Rattle.std.proofs.lemmas.Bool.{cases_lt}
use Rattle.std.proofs.lemmas.List.{length-map}
use Rattle.std.proofs.lemmas.List.Elements.{Contains-append_left, Contains-append_right, Contains-append_cases}
use Rattle.std.specs.List.{Contains}
use Rattle.std.specs.Option.{option_map}
use Rattle.swreq_param.proofs.swreq_lemmas.Members.{no_member}
use Rattle.swreq_lexicon.specs.swreq_decl.declared.skeleton.FunctionDecl.{FunctionDecl}
use Rattle.swreq_lexicon.specs.swreq_decl.declared.skeleton.ParamDecl.{ParamDecl}
use Rattle.swreq_lexicon.specs.swreq_decl.declared.skeleton.Skeleton.{Skeleton}
use Rattle.swreq_lexicon.specs.swreq_decl.declared.skeleton.StructDecl.{StructDecl}
use Rattle.swreq_lexicon.specs.swreq_derive.Facts.{params_of_depth}
use Rattle.swreq_lexicon.specs.swreq_names.declared.directory.Declaration.{Declaration}
use Rattle.swreq_lexicon.specs.swreq_names.declared.signature.Param.{Param}
use Rattle.swreq_lexicon.specs.swreq_names.declared.signature.Param.TheVariants.{Outer, Own}
use Rattle.swreq_lexicon.specs.swreq_names.declared.signature.Signature.{Signature}
use Rattle.swreq_lexicon.specs.swreq_names.declared.signature.Signature.TheVariants.{Struct, Function, Nested}
use Rattle.swreq_lexicon.specs.swreq_names.Spaces.{Spaces, spaces, declaration, of_params, param_of}
use Rattle.swreq_lexicon.specs.swreq_names.Spaces as declarations
use Rattle.swreq_param.specs.declared.ids.ParamId.{ParamId}
use Rattle.swreq_param.specs.Terms.{self_param}
use Rattle.swreq_lexicon.specs.swreq_rank.Ranks.{Bytes}
use Rattle.swreq_lowering.specs.Signatures.{params_of_struct, params_of_function, functions_of, outer_param_decls, own_param_decls, depth_within, own_depth, counts, params_of}
use Rattle.swreq_lowering.specs.Types.{param_id, param_named}
use Rattle.swreq_lowering.specs.Words.{WordsView, declared}
use Rattle.swreq_lowering.proofs.Referring.{outer_below, own_below}
use Rattle.swreq_world.specs.Closed.{IsParamOf}
use Rattle.swreq_world.proofs.Everywhere.{at_mapped, past_mapped}

-- ---- by their numbers

has_depth : (d n i : ℕ) → i < n → Contains (params_of_depth d n) (record { depth = d; index = i })
has_depth d zero i h = absurd (omega arith)
has_depth d (suc n) i h =
    let last : List ParamId = record { depth = d; index = n } ∷ [] in
    ⊎_elim (λ l. Contains-append_left (params_of_depth d n) last (record { depth = d; index = i }) (has_depth d n i l))
    (λ g. Contains-append_right (params_of_depth d n) last (record { depth = d; index = i }) (0, omega arith, here (same g))) (cases_lt i n)
  where
    same : n ≤ i → n ≡ i
    same g = omega arith

    here : n ≡ i → ◌≡◌ {A = ParamId} (record { depth = d; index = n }) (record { depth = d; index = i })
    here e k = record { depth = d; index = e k }

pub outer_is : (outer own : List ParamDecl) (k : ℕ) → k < length outer → IsParamOf (counts outer own) (record { depth = 0; index = k })
outer_is [] own k h = absurd (omega arith)
outer_is (g ∷ gs) own k h =
    Contains-append_left (params_of_depth 0 (length (g ∷ gs))) (params_of_depth 1 (length own)) (record { depth = 0; index = k })
    (has_depth 0 (length (g ∷ gs)) k h)

pub own_is : (outer own : List ParamDecl) (k : ℕ) → k < length own
    → IsParamOf (counts outer own) (record { depth = depth_within outer; index = k })
own_is [] own k h = Contains-append_left (params_of_depth 0 (length own)) (params_of_depth 1 0) (record { depth = 0; index = k })
    (has_depth 0 (length own) k h)
own_is (g ∷ gs) own k h =
    Contains-append_right (params_of_depth 0 (length (g ∷ gs))) (params_of_depth 1 (length own)) (record { depth = 1; index = k })
    (has_depth 1 (length own) k h)

-- The generic parameters of a struct are those of its functions too.
pub of_struct_too : (outer own : List ParamDecl) (g : ParamId) → IsParamOf (counts [] outer) g → IsParamOf (counts outer own) g
of_struct_too [] own g h = no_member g h
of_struct_too (p ∷ ps) own g h =
    let all = params_of_depth 0 (length (p ∷ ps)) in
    ⊎_elim (λ c. Contains-append_left all (params_of_depth 1 (length own)) g c) (λ c. no_member g c) (Contains-append_cases all [] g h)

-- ---- as they are declared

module _ (words : Bytes) (s : Skeleton) where
  named : (ps : List ParamDecl) → length (of_params words ps) ≡ length ps
  named ps = length-map (map (λ (g : ParamDecl). g.name) ps) (declaration words) ∙ length-map ps (λ (g : ParamDecl). g.name)

  of_structs : (i : ℕ) (o : Option StructDecl) → slice_get s.structs i ≡ o
      → get_or (spaces words s).struct_params i [] ≡ of_params words (params_of_struct o)
  of_structs i None e = past_mapped (λ (t : StructDecl). of_params words t.params) s.structs i [] e
  of_structs i (Some t) e = at_mapped (λ (t : StructDecl). of_params words t.params) s.structs i t [] e

  of_functions : (fs : List FunctionDecl) (j : ℕ) (o : Option FunctionDecl) → slice_get fs j ≡ o
      → get_or (map (λ f. of_params words f.params) fs) j [] ≡ of_params words (params_of_function o)
  of_functions fs j None e = past_mapped (λ (f : FunctionDecl). of_params words f.params) fs j [] e
  of_functions fs j (Some f) e = at_mapped (λ (f : FunctionDecl). of_params words f.params) fs j f [] e

  of_nested_functions : (i j : ℕ) (o : Option StructDecl) → slice_get s.structs i ≡ o
      → get_or (get_or (spaces words s).nested_params i []) j [] ≡ of_params words (params_of_function (slice_get (functions_of o) j))
  of_nested_functions i j None e =
      ap (λ (ds : List (List Declaration)). get_or ds j [])
      (past_mapped (λ (t : StructDecl). map (λ (f : FunctionDecl). of_params words f.params) t.functions) s.structs i [] e)
  of_nested_functions i j (Some t) e =
      ap (λ (ds : List (List Declaration)). get_or ds j [])
      (at_mapped (λ (t : StructDecl). map (λ (f : FunctionDecl). of_params words f.params) t.functions) s.structs i t [] e)
      ∙ of_functions t.functions j (slice_get t.functions j) refl

  pub outer_declared : (g : Signature) → declarations.outer_params (spaces words s) g ≡ of_params words (outer_param_decls s g)
  outer_declared (Struct i) = refl
  outer_declared (Function i) = refl
  outer_declared (Nested i j) = of_structs i (slice_get s.structs i) refl

  pub own_declared : (g : Signature) → declarations.own_params (spaces words s) g ≡ of_params words (own_param_decls s g)
  own_declared (Struct i) = of_structs i (slice_get s.structs i) refl
  own_declared (Function i) = of_functions s.functions i (slice_get s.functions i) refl
  own_declared (Nested i j) = of_nested_functions i j (slice_get s.structs i) refl

-- ---- what a name refers to

-- A name that refers to a generic parameter refers to one of the signature.
pub named_is : (w : WordsView) → declared w ≡ spaces w.text w.skeleton → (g : Signature) (name : Bytes)
    → is_some (param_of (declared w) g name) ≡ true
    → IsParamOf (params_of w.skeleton g) (unwrap_or (param_named w g name) self_param)
named_is w same g name e = by (param_of (declared w) g name) refl e
  where
    by : (o : Option Param) → param_of (declared w) g name ≡ o → is_some o ≡ true
        → IsParamOf (params_of w.skeleton g) (unwrap_or (option_map (param_id (own_depth w.skeleton g)) o) self_param)
    by None n e = absurd cc
    by (Some (Outer k)) n e =
        let l = outer_below (declared w) g name k n in
        let m = ap (λ (d : Spaces). length (declarations.outer_params d g)) same ∙ ap length (outer_declared w.text w.skeleton g)
        ∙ named w.text w.skeleton (outer_param_decls w.skeleton g) in
        outer_is (outer_param_decls w.skeleton g) (own_param_decls w.skeleton g) k (omega arith)
    by (Some (Own k)) n e =
        let l = own_below (declared w) g name k n in
        let m = ap (λ (d : Spaces). length (declarations.own_params d g)) same ∙ ap length (own_declared w.text w.skeleton g)
        ∙ named w.text w.skeleton (own_param_decls w.skeleton g) in
        own_is (outer_param_decls w.skeleton g) (own_param_decls w.skeleton g) k (omega arith)
