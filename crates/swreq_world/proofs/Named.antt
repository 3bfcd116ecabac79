-- What a look-up by names finds has these names, and where a signature has them, one is found.
use Rattle.std.proofs.Common.{◌≡◌, ℕ, List, [], ◌++◌, Option, Some, None, map, slice_get, refl, sym, ap, subst, ◌∙◌}
use Rattle.std.proofs.lemmas.Option.{slice_get_within, same_Some}
use Rattle.std.specs.List.{All}
use Rattle.std.specs.Option.{option_map}
use Rattle.swreq_param.proofs.swreq_lemmas.Elements.{there_is}
use Rattle.swreq_lexicon.specs.swreq_decl.declared.skeleton.FunctionDecl.{FunctionDecl}
use Rattle.swreq_lexicon.specs.swreq_decl.declared.skeleton.StructDecl.{StructDecl}
use Rattle.swreq_lexicon.specs.swreq_names.declared.directory.Declaration.{Declaration}
use Rattle.swreq_lexicon.specs.swreq_names.declared.signature.Signature.{Signature}
use Rattle.swreq_lexicon.specs.swreq_names.declared.signature.Signature.TheVariants.{Struct, Function, Nested}
use Rattle.swreq_lexicon.specs.swreq_names.Spaces.{Spaces, spaces, word, declarations, place, struct_of, function_of, signature_of, nested_in}
use Rattle.swreq_resolve.specs.declared.refusal.Refusal.{Refusal}
use Rattle.swreq_resolve.specs.Refusals.{duplicates}
use Rattle.swreq_resolve.specs.Resolving.{HasNames}
use Rattle.swreq_lexicon.specs.swreq_rank.Ranks.{Bytes}
use Rattle.swreq_lowering.specs.Signatures.{functions_of}
use Rattle.swreq_lowering.specs.Words.{WordsView, declared}
use Rattle.swreq_lowering.specs.Queries.{signature_named}
use Rattle.swreq_world.specs.Text.{struct_name, function_name, name_of}
use Rattle.swreq_world.proofs.Everywhere.{all_left, all_right, at_mapped}
use Rattle.swreq_world.proofs.Offsets.{AreRising, struct_start}
use Rattle.swreq_world.proofs.OnceDeclared.{first, none_of_signatures, refers, some_place_of}
use Rattle.swreq_world.proofs.Resolving.{Never, referred, declared_at}
use Rattle.swreq_world.proofs.Standing.{IsIn}

-- the name of the struct around a signature
abbrev pub outer_name_of : WordsView → Signature → Option Bytes
outer_name_of w (Struct i) = None
outer_name_of w (Function i) = None
outer_name_of w (Nested i j) = Some (name_of w (Struct i))

-- The signature is of the text, and has these names.
pub record IsNamed (w : WordsView) (outer : Option Bytes) (name : Bytes) (g : Signature) : Type 0 where
  pub is_in : IsIn w.skeleton g
  pub called : name_of w g ≡ name
  pub around : outer_name_of w g ≡ outer

-- ---- what is found

-- the names of the functions of a struct
abbrev pub inner_names : WordsView → StructDecl → List Declaration
inner_names w t = declarations w.text (map (λ (f : FunctionDecl). f.name) t.functions)

module _ (w : WordsView) (same : declared w ≡ spaces w.text w.skeleton) where
  struct_at : (name : Bytes) (i : ℕ) → struct_of (declared w) name ≡ Some i
      → (t : StructDecl) × (slice_get w.skeleton.structs i ≡ Some t) × (word w.text t.name ≡ name)
  struct_at name i e =
      let h : struct_of (spaces w.text w.skeleton) name ≡ Some i = subst (λ (d : Spaces). struct_of d name ≡ Some i) same e in
      declared_at w.text (λ (t : StructDecl). t.name) w.skeleton.structs name i
      (referred (spaces w.text w.skeleton).structs (spaces w.text w.skeleton).functions name i h)

  function_at : (name : Bytes) (k : ℕ) → function_of (declared w) name ≡ Some k
      → (f : FunctionDecl) × (slice_get w.skeleton.functions k ≡ Some f) × (word w.text f.name ≡ name)
  function_at name k e =
      let h : function_of (spaces w.text w.skeleton) name ≡ Some k = subst (λ (d : Spaces). function_of d name ≡ Some k) same e in
      declared_at w.text (λ (f : FunctionDecl). f.name) w.skeleton.functions name k
      (referred (spaces w.text w.skeleton).functions (spaces w.text w.skeleton).structs name k h)

  struct_found : (name : Bytes) (i : ℕ) → struct_of (declared w) name ≡ Some i → IsNamed w None name (Struct i)
  struct_found name i e =
      let t = struct_at name i e in
      record { is_in = slice_get_within w.skeleton.structs i t.0 t.1; called = ap (struct_name w) t.1 ∙ t.2; around = refl }

  function_found : (name : Bytes) (k : ℕ) → function_of (declared w) name ≡ Some k → IsNamed w None name (Function k)
  function_found name k e =
      let f = function_at name k e in
      record { is_in = slice_get_within w.skeleton.functions k f.0 f.1; called = ap (function_name w) f.1 ∙ f.2; around = refl }

  top_found : (name : Bytes) (g : Signature) → signature_of (declared w) name ≡ Some g → IsNamed w None name g
  top_found name g e = by (struct_of (declared w) name) (function_of (declared w) name) refl refl e
    where
      by : (o p : Option ℕ) → struct_of (declared w) name ≡ o → function_of (declared w) name ≡ p
          → (elim o as (λ _. Option Signature) [ None ↦ option_map Function p | Some i ↦ Some (Struct i) ]) ≡ Some g → IsNamed w None name g
      by (Some i) p n m e = subst (IsNamed w None name) (same_Some (Struct i) g e) (struct_found name i n)
      by None (Some k) n m e = subst (IsNamed w None name) (same_Some (Function k) g e) (function_found name k m)
      by None None n m e = absurd cc

  nested_found : (outer name : Bytes) (i : ℕ) (t : StructDecl) (g : Signature) → slice_get w.skeleton.structs i ≡ Some t
      → word w.text t.name ≡ outer
      → nested_in (declared w) i name ≡ Some g → IsNamed w (Some outer) name g
  nested_found outer name i t g at called e = by (place (inner_names w t) name) refl (sym is ∙ e)
    where
      is : nested_in (declared w) i name ≡ option_map (Nested i) (place (inner_names w t) name)
      is =
          ap (λ (d : Spaces). nested_in d i name) same
          ∙ ap (λ ds. option_map (Nested i) (place ds name)) (at_mapped (inner_names w) w.skeleton.structs i t [] at)

      by : (o : Option ℕ) → place (inner_names w t) name ≡ o → option_map (Nested i) o ≡ Some g → IsNamed w (Some outer) name g
      by None n e = absurd cc
      by (Some j) n e =
          let f = declared_at w.text (λ (f : FunctionDecl). f.name) t.functions name j n in
          subst (IsNamed w (Some outer) name) (same_Some (Nested i j) g e) (record {
            is_in = (t, at, slice_get_within t.functions j f.0 f.1);
            called = ap (λ o. function_name w (slice_get (functions_of o) j)) at ∙ ap (function_name w) f.1 ∙ f.2;
            around = ap Some (ap (struct_name w) at ∙ called);
          })

  pub found : (outer : Option Bytes) (name : Bytes) (g : Signature) → signature_named (declared w) outer name ≡ Some g
      → IsNamed w outer name g
  found None name g e = top_found name g e
  found (Some outer) name g e = by (struct_of (declared w) outer) refl e
    where
      by : (o : Option ℕ) → struct_of (declared w) outer ≡ o
          → (elim o as (λ _. Option Signature) [ None ↦ None | Some i ↦ nested_in (declared w) i name ]) ≡ Some g
          → IsNamed w (Some outer) name g
      by None n e = absurd cc
      by (Some i) n e = let t = struct_at outer i n in nested_found outer name i t.0 g t.1 t.2 e

-- ---- what has the names is found

module _ (w : WordsView) (names : HasNames w.text w.skeleton) where
  abbrev d : Spaces
  d = spaces w.text w.skeleton

  abbrev among_structs : List Refusal
  among_structs = duplicates d.structs d.structs

  abbrev structs_by_functions : List Refusal
  structs_by_functions = duplicates d.functions d.structs

  abbrev functions_by_structs : List Refusal
  functions_by_structs = duplicates d.structs d.functions

  abbrev among_functions : List Refusal
  among_functions = duplicates d.functions d.functions

  none_of : All Never (among_structs ++ (structs_by_functions ++ (functions_by_structs ++ among_functions)))
  none_of = none_of_signatures w.text w.skeleton names

  none_later : All Never (structs_by_functions ++ (functions_by_structs ++ among_functions))
  none_later = all_right Never among_structs (structs_by_functions ++ (functions_by_structs ++ among_functions)) none_of

  none_last : All Never (functions_by_structs ++ among_functions)
  none_last = all_right Never structs_by_functions (functions_by_structs ++ among_functions) none_later

  pub structs_differ : All Never among_structs
  structs_differ = all_left Never among_structs (structs_by_functions ++ (functions_by_structs ++ among_functions)) none_of

  pub functions_differ : All Never among_functions
  functions_differ = all_right Never functions_by_structs among_functions none_last

  -- No struct has the name of a function before it, and the other way round.
  pub structs_alone : All Never structs_by_functions
  structs_alone = all_left Never structs_by_functions (functions_by_structs ++ among_functions) none_later

  pub functions_alone : All Never functions_by_structs
  functions_alone = all_left Never functions_by_structs among_functions none_last

  -- A look-up at the top finds something.
  abbrev FindsTop : Bytes → Type 0
  FindsTop name = (g : Signature) × (signature_of d name ≡ Some g)

  struct_finds : (name : Bytes) (i : ℕ) → struct_of d name ≡ Some i → FindsTop name
  struct_finds name i e = (
    Struct i,
    ap (λ o. elim o as (λ _. Option Signature) [ None ↦ option_map Function (function_of d name) | Some i ↦ Some (Struct i) ]) e,
  )

  function_finds : (name : Bytes) (k : ℕ) → function_of d name ≡ Some k → FindsTop name
  function_finds name k e = by (struct_of d name) refl
    where
      by : (o : Option ℕ) → struct_of d name ≡ o → FindsTop name
      by (Some i) n = struct_finds name i n
      by None n = (
        Function k,
        ap (λ o. elim o as (λ _. Option Signature) [ None ↦ option_map Function (function_of d name) | Some i ↦ Some (Struct i) ]) n
            ∙ ap (option_map Function) e,
      )

  struct_named : (i : ℕ) (t : StructDecl) → slice_get w.skeleton.structs i ≡ Some t → FindsTop (word w.text t.name)
  struct_named i t at =
      let k = some_place_of w.text (λ (t : StructDecl). t.name) w.skeleton.structs i t at in
      struct_finds (word w.text t.name) k.0
      (refers w.text (λ (t : StructDecl). t.name) w.skeleton.structs d.functions structs_alone (word w.text t.name) k.0 k.1)

  function_named : (k : ℕ) (f : FunctionDecl) → slice_get w.skeleton.functions k ≡ Some f → FindsTop (word w.text f.name)
  function_named k f at =
      let j = some_place_of w.text (λ (f : FunctionDecl). f.name) w.skeleton.functions k f at in
      function_finds (word w.text f.name) j.0
      (refers w.text (λ (f : FunctionDecl). f.name) w.skeleton.functions d.structs functions_alone (word w.text f.name) j.0 j.1)

  module _ (from : ℕ) (rising : AreRising struct_start from w.skeleton.structs) where
    struct_meant : (i : ℕ) (t : StructDecl) → slice_get w.skeleton.structs i ≡ Some t → struct_of d (word w.text t.name) ≡ Some i
    struct_meant i t at =
        refers w.text (λ (t : StructDecl). t.name) w.skeleton.structs d.functions structs_alone (word w.text t.name) i
        (first w.text (λ (t : StructDecl). t.name) w.skeleton.structs from rising structs_differ i t at)

    nested_named : (i j : ℕ) (t : StructDecl) (f : FunctionDecl) → slice_get w.skeleton.structs i ≡ Some t
        → slice_get t.functions j ≡ Some f
        → (g : Signature) × (signature_named d (Some (word w.text t.name)) (word w.text f.name) ≡ Some g)
    nested_named i j t f at there =
        let name = word w.text f.name in
        let k = some_place_of w.text (λ (f : FunctionDecl). f.name) t.functions j f there in (
          Nested i k.0,
          ap (λ o. elim o as (λ _. Option Signature) [ None ↦ None | Some i ↦ nested_in d i name ]) (struct_meant i t at)
              ∙ ap (λ ds. option_map (Nested i) (place ds name)) (at_mapped (inner_names w) w.skeleton.structs i t [] at)
              ∙ ap (option_map (Nested i)) k.1,
        )

    -- A look-up finds something.
    abbrev Finds : Option Bytes → Bytes → Type 0
    Finds outer name = (g : Signature) × (signature_named d outer name ≡ Some g)

    finds : (g : Signature) → IsIn w.skeleton g → Finds (outer_name_of w g) (name_of w g)
    finds (Struct i) h =
        let t = there_is w.skeleton.structs i h in
        subst (Finds None) (sym (ap (struct_name w) t.1)) (struct_named i t.0 t.1)
    finds (Function k) h =
        let f = there_is w.skeleton.functions k h in
        subst (Finds None) (sym (ap (function_name w) f.1)) (function_named k f.0 f.1)
    finds (Nested i j) (t, at, l) =
        let f = there_is t.functions j l in
        subst (λ outer. Finds (Some outer) (name_of w (Nested i j))) (sym (ap (struct_name w) at))
        (subst (Finds (Some (word w.text t.name)))
        (sym (ap (λ o. function_name w (slice_get (functions_of o) j)) at ∙ ap (function_name w) f.1)) (nested_named i j t f.0 at f.1))

    pub is_found : (outer : Option Bytes) (name : Bytes) (g : Signature) → IsNamed w outer name g → Finds outer name
    is_found outer name g is = subst (λ o. Finds o name) is.around (subst (Finds (outer_name_of w g)) is.called (finds g is.is_in))
