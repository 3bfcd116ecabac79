-- What a look-up of a generic parameter by its name finds.
use Rattle.std.proofs.Common.{◌≡◌, ◌↔◌, ℕ, zero, suc, ◌+◌, List, [], ◌∷◌, ◌++◌, Option, Some, None, get_or, slice_get, Contains, refl, sym, ap, subst, ◌∙◌, arith}
use Rattle.std.proofs.lemmas.List.Elements.{All-nil}
use Rattle.std.proofs.lemmas.Option.{same_Some}
use Rattle.std.specs.List.{All, flat_map}
use Rattle.std.specs.Option.{option_map}
use Rattle.swreq_param.proofs.swreq_lemmas.Elements.{get_contains, there_is}
use Rattle.swreq_param.proofs.swreq_lemmas.Members.{no_member}
use Rattle.swreq_lexicon.specs.swreq_decl.declared.skeleton.FunctionDecl.{FunctionDecl}
use Rattle.swreq_lexicon.specs.swreq_decl.declared.skeleton.ParamDecl.{ParamDecl}
use Rattle.swreq_lexicon.specs.swreq_decl.declared.skeleton.ReqDecl.{ReqDecl}
use Rattle.swreq_lexicon.specs.swreq_decl.declared.skeleton.Skeleton.{Skeleton}
use Rattle.swreq_lexicon.specs.swreq_decl.declared.skeleton.StructDecl.{StructDecl}
use Rattle.swreq_lexicon.specs.swreq_names.declared.directory.Declaration.{Declaration}
use Rattle.swreq_lexicon.specs.swreq_names.declared.signature.Param.{Param}
use Rattle.swreq_lexicon.specs.swreq_names.declared.signature.Param.TheVariants.{Outer, Own}
use Rattle.swreq_lexicon.specs.swreq_names.declared.signature.Signature.{Signature}
use Rattle.swreq_lexicon.specs.swreq_names.declared.signature.Signature.TheVariants.{Struct, Function, Nested}
use Rattle.swreq_lexicon.specs.swreq_names.Spaces.{Spaces, spaces, word, place, offset_of, of_params, param_of}
use Rattle.swreq_lexicon.specs.swreq_names.Spaces as declarations
use Rattle.swreq_param.specs.declared.ids.ParamId.{ParamId}
use Rattle.swreq_resolve.specs.declared.refusal.Refusal.{Refusal}
use Rattle.swreq_resolve.specs.Refusals.{begins_in_signature, by_place, duplicates, of_nested, of_param, of_requirement, of_signature}
use Rattle.swreq_resolve.specs.Resolving.{HasNames}
use Rattle.swreq_lexicon.specs.swreq_rank.Ranks.{Bytes}
use Rattle.swreq_lowering.specs.Signatures.{depth_within, outer_param_decls, own_param_decls, own_depth, params_of_struct, params_of_function, functions_of}
use Rattle.swreq_lowering.specs.Types.{param_id}
use Rattle.swreq_world.specs.Lookups.{param_decls_of_depth, IsParamNamed}
use Rattle.swreq_world.proofs.Everywhere.{all_left, all_right, placed_piece}
use Rattle.swreq_world.proofs.GenericParams.{outer_declared, own_declared}
use Rattle.swreq_world.proofs.Offsets.{AreRising, starts_from}
use Rattle.swreq_world.proofs.OnceDeclared.{first, none_of_function, none_of_struct, not_before, not_earlier, stands}
use Rattle.swreq_world.proofs.ParamsApart.{AreParamsInOrder, param_start}
use Rattle.swreq_world.proofs.Resolving.{Never, declared_at}
use Rattle.swreq_world.proofs.Standing.{IsIn}

-- ---- what is found

module _ (text : Bytes) (outer own : List ParamDecl) where
  -- what a name refers to
  abbrev param_in : Bytes → Option Param
  param_in name = elim (place (of_params text outer) name)
      as (λ _. Option Param) [ None ↦ option_map Own (place (of_params text own) name) | Some k ↦ Some (Outer k) ]

  abbrev depth : ℕ
  depth = depth_within outer

  abbrev IsCalled : Bytes → ParamId → Type 0
  IsCalled name p = (q : ParamDecl) × (slice_get (param_decls_of_depth outer own p.depth) p.index ≡ Some q) × (word text q.name ≡ name)

  module _ (k : ℕ) (q : ParamDecl) where
    at_outer : (os : List ParamDecl) → slice_get os k ≡ Some q → slice_get (param_decls_of_depth os own 0) k ≡ Some q
    at_outer [] e = absurd cc
    at_outer (g ∷ gs) e = e

    pub at_own : (os : List ParamDecl) → slice_get own k ≡ Some q → slice_get (param_decls_of_depth os own (depth_within os)) k ≡ Some q
    at_own [] e = e
    at_own (g ∷ gs) e = e

  found : (name : Bytes) (p : ParamId) → option_map (param_id depth) (param_in name) ≡ Some p → IsCalled name p
  found name p e = by (place (of_params text outer) name) (place (of_params text own) name) refl refl e
    where
      by : (o m : Option ℕ) → place (of_params text outer) name ≡ o → place (of_params text own) name ≡ m
          → option_map (param_id depth) (elim o as (λ _. Option Param) [ None ↦ option_map Own m | Some k ↦ Some (Outer k) ]) ≡ Some p
          → IsCalled name p
      by (Some k) m n n' h =
          let (q, at, called) = declared_at text (λ (q : ParamDecl). q.name) outer name k n in
          subst (IsCalled name) (same_Some (param_id depth (Outer k)) p h) (q, at_outer k q outer at, called)
      by None (Some k) n n' h =
          let (q, at, called) = declared_at text (λ (q : ParamDecl). q.name) own name k n' in
          subst (IsCalled name) (same_Some (param_id depth (Own k)) p h) (q, at_own k q outer at, called)
      by None None n n' h = absurd cc

-- ---- what has the name is found

-- The names of generic parameters differ: those of the struct around a signature come first, and none is declared twice.
pub record AreToldApart (text : Bytes) (outer own : List ParamDecl) : Type 0 where
  pub outer_from : ℕ
  pub outer_rising : AreRising param_start outer_from outer
  pub own_from : ℕ
  pub own_rising : AreRising param_start own_from own
  pub later : (p : ParamDecl) → Contains outer p → AreRising param_start (suc (param_start p)) own
  pub outer_once : All Never (duplicates (of_params text outer) (of_params text outer))
  pub own_once : All Never (duplicates (of_params text own) (of_params text own))
  pub own_apart : All Never (duplicates (of_params text outer) (of_params text own))

module _ (text : Bytes) (outer own : List ParamDecl) (told : AreToldApart text outer own) where
  outer_first : (k : ℕ) (q : ParamDecl) → slice_get outer k ≡ Some q → place (of_params text outer) (word text q.name) ≡ Some k
  outer_first = first text (λ (q : ParamDecl). q.name) outer told.outer_from told.outer_rising told.outer_once

  own_first : (k : ℕ) (q : ParamDecl) → slice_get own k ≡ Some q → place (of_params text own) (word text q.name) ≡ Some k
  own_first = first text (λ (q : ParamDecl). q.name) own told.own_from told.own_rising told.own_once

  own_alone : (k : ℕ) (q : ParamDecl) → slice_get own k ≡ Some q → place (of_params text outer) (word text q.name) ≡ None
  own_alone k q e = by (place (of_params text outer) (word text q.name)) refl
    where
      by : (o : Option ℕ) → place (of_params text outer) (word text q.name) ≡ o → place (of_params text outer) (word text q.name) ≡ None
      by None n = n
      by (Some j) n =
          let (p, at, same) = declared_at text (λ (q : ParamDecl). q.name) outer (word text q.name) j n in
          let none = not_before text (λ (q : ParamDecl). q.name) own (of_params text outer) told.own_apart k q e in
          let no_earlier = not_earlier (of_params text outer) (word text q.name) (param_start q) j n none in
          let offset : offset_of (of_params text outer) j ≡ param_start p =
          ap (λ o. elim o as (λ _. ℕ) [ None ↦ 0 | Some a ↦ a.at ]) (stands text (λ (q : ParamDecl). q.name) outer j p at) in
          let after = starts_from param_start (suc (param_start p)) own (told.later p (get_contains outer j p at)) k q e in
          absurd (omega (arith, no_earlier, offset, after))

  outer_means : (name : Bytes) (k : ℕ) → place (of_params text outer) name ≡ Some k
      → option_map (param_id (depth_within outer)) (param_in text outer own name) ≡ Some (record { depth = 0; index = k })
  outer_means name k e =
      ap (λ o. option_map (param_id (depth_within outer))
      (elim o as (λ _. Option Param) [ None ↦ option_map Own (place (of_params text own) name) | Some k ↦ Some (Outer k) ]))
      e

  own_means : (name : Bytes) (k : ℕ) → place (of_params text outer) name ≡ None → place (of_params text own) name ≡ Some k
      → option_map (param_id (depth_within outer)) (param_in text outer own name) ≡ Some (record { depth = depth_within outer; index = k })
  own_means name k n e =
      ap (λ o. option_map (param_id (depth_within outer))
      (elim o as (λ _. Option Param) [ None ↦ option_map Own (place (of_params text own) name) | Some k ↦ Some (Outer k) ])) n
      ∙ ap (λ o. option_map (param_id (depth_within outer)) (option_map Own o)) e

means : (text : Bytes) (outer own : List ParamDecl) → AreToldApart text outer own → (d k : ℕ) (q : ParamDecl)
    → slice_get (param_decls_of_depth outer own d) k ≡ Some q
    → option_map (param_id (depth_within outer)) (param_in text outer own (word text q.name)) ≡ Some (record { depth = d; index = k })
means text [] own told zero k q e = own_means text [] own told (word text q.name) k refl (own_first text [] own told k q e)
means text [] own told (suc d) k q e = absurd cc
means text (g ∷ gs) own told zero k q e = outer_means text (g ∷ gs) own told (word text q.name) k (outer_first text (g ∷ gs) own told k q e)
means text (g ∷ gs) own told (suc zero) k q e =
    own_means text (g ∷ gs) own told (word text q.name) k (own_alone text (g ∷ gs) own told k q e) (own_first text (g ∷ gs) own told k q e)
means text (g ∷ gs) own told (suc (suc d)) k q e = absurd cc

-- ---- the generic parameters of a signature

module _ (text : Bytes) (s : Skeleton) (g : Signature) where
  -- the generic parameter that a name refers to
  abbrev pub meant : Bytes → Option ParamId
  meant name = option_map (param_id (own_depth s g)) (param_of (spaces text s) g name)

  param_is : (name : Bytes) → param_of (spaces text s) g name ≡ param_in text (outer_param_decls s g) (own_param_decls s g) name
  param_is name =
      λ i. elim (place (outer_declared text s g i) name)
      as (λ _. Option Param) [ None ↦ option_map Own (place (own_declared text s g i) name) | Some k ↦ Some (Outer k) ]

  pub param_says : (name : Bytes) (p : ParamId) → meant name ≡ Some p → IsParamNamed text s g name p
  param_says name p e =
      found text (outer_param_decls s g) (own_param_decls s g) name p (sym (ap (option_map (param_id (own_depth s g))) (param_is name)) ∙ e)

  pub param_named : AreToldApart text (outer_param_decls s g) (own_param_decls s g) → (name : Bytes) (p : ParamId)
      → (meant name ≡ Some p) ↔ IsParamNamed text s g name p
  param_named told name p = (
    param_says name p,
    λ called.
        ap (option_map (param_id (own_depth s g))) (param_is name)
        ∙ ap (λ n. option_map (param_id (own_depth s g)) (param_in text (outer_param_decls s g) (own_param_decls s g) n)) (sym called.2)
        ∙ means text (outer_param_decls s g) (own_param_decls s g) told p.depth p.index called.0 called.1,
  )

-- ---- the signatures of a text

module _ (text : Bytes) (s : Skeleton) (names : HasNames text s) (of_structs : (t : StructDecl) → Contains s.structs t → AreParamsInOrder t)
    (of_functions : (f : FunctionDecl) → Contains s.functions f → (from : ℕ) × AreRising param_start from f.params) where
  abbrev d : Spaces
  d = spaces text s

  module _ (g : Signature) (params : List ParamDecl) (clause : List ReqDecl) (none : All Never (of_signature text d g params clause)) where
    abbrev outer_declarations : List Declaration
    outer_declarations = declarations.outer_params d g

    abbrev own_declarations : List Declaration
    own_declarations = declarations.own_params d g

    abbrev others : List Refusal
    others =
        flat_map (of_param text d (begins_in_signature d g)) params ++ flat_map (of_requirement text d (begins_in_signature d g)) clause

    once : All Never (duplicates (of_params text (own_param_decls s g)) (of_params text (own_param_decls s g)))
    once =
        subst (λ ds. All Never (duplicates ds ds)) (own_declared text s g)
        (all_left Never (duplicates own_declarations own_declarations) (duplicates outer_declarations own_declarations ++ others) none)

    apart : All Never (duplicates (of_params text (outer_param_decls s g)) (of_params text (own_param_decls s g)))
    apart =
        subst (λ ds. All Never (duplicates (of_params text (outer_param_decls s g)) ds)) (own_declared text s g)
        (subst (λ ds. All Never (duplicates ds own_declarations)) (outer_declared text s g)
        (all_left Never (duplicates outer_declarations own_declarations) others
        (all_right Never (duplicates own_declarations own_declarations) (duplicates outer_declarations own_declarations ++ others) none)))

  top : (g : Signature) (ps : List ParamDecl) → own_param_decls s g ≡ ps → outer_param_decls s g ≡ [] → (from : ℕ)
      → AreRising param_start from ps
      → All Never (duplicates (of_params text (own_param_decls s g)) (of_params text (own_param_decls s g)))
      → AreToldApart text [] (own_param_decls s g)
  top g ps own outer from rising once = record {
    outer_from = 0;
    outer_rising = tt;
    own_from = from;
    own_rising = subst (AreRising param_start from) (sym own) rising;
    later = λ p c. no_member p c;
    outer_once = All-nil Never;
    own_once = once;
    own_apart = nothing_before (of_params text (own_param_decls s g));
  }
    where
      nothing_before : (ds : List Declaration) → All Never (duplicates [] ds)
      nothing_before [] = All-nil Never
      nothing_before (e ∷ ds) = nothing_before ds

  nested : (i j : ℕ) (t : StructDecl) (f : FunctionDecl) → slice_get s.structs i ≡ Some t → slice_get t.functions j ≡ Some f
      → AreToldApart text (outer_param_decls s (Nested i j)) (own_param_decls s (Nested i j))
  nested i j t f at there = record {
    outer_from = order.from;
    outer_rising = subst (AreRising param_start order.from) (sym outer) order.own;
    own_from = order.from;
    own_rising = subst (AreRising param_start order.from) (sym own) (order.inner f inside);
    later =
        λ p c. subst (AreRising param_start (suc (param_start p))) (sym own) (order.later p (subst (λ ps. Contains ps p) outer c) f inside);
    outer_once = once (Struct i) t.params t.clause of_it;
    own_once = once (Nested i j) f.params f.clause of_inner;
    own_apart = apart (Nested i j) f.params f.clause of_inner;
  }
    where
      order : AreParamsInOrder t
      order = of_structs t (get_contains s.structs i t at)

      inside : Contains t.functions f
      inside = get_contains t.functions j f there

      outer : outer_param_decls s (Nested i j) ≡ t.params
      outer = ap params_of_struct at

      own : own_param_decls s (Nested i j) ≡ f.params
      own = ap (λ o. params_of_function (slice_get (functions_of o) j)) at ∙ ap params_of_function there

      functions : List Declaration
      functions = get_or d.nested i []

      all_of_inner : List Refusal
      all_of_inner = by_place (of_nested text d i) 0 t.functions

      of_it : All Never (of_signature text d (Struct i) t.params t.clause)
      of_it = all_left Never (of_signature text d (Struct i) t.params t.clause) (duplicates functions functions ++ all_of_inner)
          (none_of_struct text s names i t at)

      of_inner : All Never (of_signature text d (Nested i j) f.params f.clause)
      of_inner =
          let first : 0 + j ≡ j = omega arith in
          placed_piece Never (of_nested text d i) 0 t.functions j j f first there
          (all_right Never (duplicates functions functions) all_of_inner
          (all_right Never (of_signature text d (Struct i) t.params t.clause) (duplicates functions functions ++ all_of_inner)
          (none_of_struct text s names i t at)))

  pub told_apart : (g : Signature) → IsIn s g → AreToldApart text (outer_param_decls s g) (own_param_decls s g)
  told_apart (Struct i) h =
      let (t, at) = there_is s.structs i h in
      let order = of_structs t (get_contains s.structs i t at) in
      let functions : List Declaration = get_or d.nested i [] in
      top (Struct i) t.params (ap params_of_struct at) refl order.from order.own
      (once (Struct i) t.params t.clause
      (all_left Never (of_signature text d (Struct i) t.params t.clause)
      (duplicates functions functions ++ by_place (of_nested text d i) 0 t.functions)
      (none_of_struct text s names i t at)))
  told_apart (Function k) h =
      let (f, at) = there_is s.functions k h in
      let order = of_functions f (get_contains s.functions k f at) in
      top (Function k) f.params (ap params_of_function at) refl order.0 order.1
      (once (Function k) f.params f.clause (none_of_function text s names k f at))
  told_apart (Nested i j) (t, at, l) = let (f, there) = there_is t.functions j l in nested i j t f at there
