-- No two signatures of a text have the same names, where its names resolve.
use Rattle.std.proofs.Common.{◌≡◌, ℕ, ◌≤◌, List, [], ◌++◌, Option, Some, None, get_or, slice_get, Contains, sym, ap, subst, ◌∙◌, arith}
use Rattle.std.proofs.lemmas.Option.{same_Some}
use Rattle.std.specs.List.{All}
use Rattle.swreq_param.proofs.swreq_lemmas.Elements.{get_contains, there_is}
use Rattle.swreq_lexicon.specs.swreq_decl.declared.skeleton.FunctionDecl.{FunctionDecl}
use Rattle.swreq_lexicon.specs.swreq_decl.declared.skeleton.StructDecl.{StructDecl}
use Rattle.swreq_lexicon.specs.swreq_names.declared.directory.Declaration.{Declaration}
use Rattle.swreq_lexicon.specs.swreq_names.declared.signature.Signature.{Signature}
use Rattle.swreq_lexicon.specs.swreq_names.declared.signature.Signature.TheVariants.{Struct, Function, Nested}
use Rattle.swreq_lexicon.specs.swreq_names.Spaces.{Spaces, spaces, word, place, offset_of}
use Rattle.swreq_resolve.specs.Refusals.{by_place, duplicates, of_nested, of_signature}
use Rattle.swreq_resolve.specs.Resolving.{HasNames}
use Rattle.swreq_lexicon.specs.swreq_rank.Ranks.{Bytes}
use Rattle.swreq_lowering.specs.Signatures.{functions_of}
use Rattle.swreq_lowering.specs.Words.{WordsView}
use Rattle.swreq_world.specs.Text.{struct_name, function_name, name_of}
use Rattle.swreq_world.proofs.Apart.{AreInOrder}
use Rattle.swreq_world.proofs.Everywhere.{all_left, all_right, at_mapped}
use Rattle.swreq_world.proofs.Named.{IsNamed, inner_names, structs_alone, functions_alone, structs_differ, functions_differ}
use Rattle.swreq_world.proofs.Offsets.{AreRising, struct_start, function_start}
use Rattle.swreq_world.proofs.OnceDeclared.{first, not_before, not_earlier, none_of_struct, stands}
use Rattle.swreq_world.proofs.Resolving.{Never}

-- the signatures of a text, as they stand in it
pub record StandApart (w : WordsView) : Type 0 where
  pub from : ℕ
  pub structs : AreRising struct_start from w.skeleton.structs
  pub functions : AreRising function_start from w.skeleton.functions
  pub inner : (t : StructDecl) → Contains w.skeleton.structs t → AreInOrder t
  pub apart : (t : StructDecl) (f : FunctionDecl) → Contains w.skeleton.structs t → Contains w.skeleton.functions f
      → struct_start t ≡ function_start f → ⊥

module _ (w : WordsView) (names : HasNames w.text w.skeleton) (stand : StandApart w) where
  abbrev d : Spaces
  d = spaces w.text w.skeleton

  abbrev StructAt : ℕ → StructDecl → Type 0
  StructAt i t = slice_get w.skeleton.structs i ≡ Some t

  abbrev FunctionAt : ℕ → FunctionDecl → Type 0
  FunctionAt k f = slice_get w.skeleton.functions k ≡ Some f

  abbrev name_of_struct : StructDecl → Bytes
  name_of_struct t = word w.text t.name

  abbrev name_of_function : FunctionDecl → Bytes
  name_of_function f = word w.text f.name

  -- ---- places

  struct_first : (i : ℕ) (t : StructDecl) → StructAt i t → place d.structs (name_of_struct t) ≡ Some i
  struct_first = first w.text (λ (t : StructDecl). t.name) w.skeleton.structs stand.from stand.structs (structs_differ w names)

  function_first : (k : ℕ) (f : FunctionDecl) → FunctionAt k f → place d.functions (name_of_function f) ≡ Some k
  function_first = first w.text (λ (f : FunctionDecl). f.name) w.skeleton.functions stand.from stand.functions (functions_differ w names)

  inner_first : (i : ℕ) (t : StructDecl) → StructAt i t → (j : ℕ) (f : FunctionDecl) → slice_get t.functions j ≡ Some f
      → place (inner_names w t) (name_of_function f) ≡ Some j
  inner_first i t at =
      let r = stand.inner t (get_contains w.skeleton.structs i t at) in
      first w.text (λ (f : FunctionDecl). f.name) t.functions r.0 r.1 (subst (λ ds. All Never (duplicates ds ds)) same none)
    where
      nested : List Declaration
      nested = get_or d.nested i []

      same : nested ≡ inner_names w t
      same = at_mapped (inner_names w) w.skeleton.structs i t [] at

      none : All Never (duplicates nested nested)
      none =
          all_left Never (duplicates nested nested) (by_place (of_nested w.text d i) 0 t.functions)
          (all_right Never (of_signature w.text d (Struct i) t.params t.clause)
          (duplicates nested nested ++ by_place (of_nested w.text d i) 0 t.functions)
          (none_of_struct w.text w.skeleton names i t at))

  -- ---- one name

  one_struct : (i k : ℕ) (t u : StructDecl) → StructAt i t → StructAt k u → name_of_struct t ≡ name_of_struct u → i ≡ k
  one_struct i k t u e f same = same_Some i k (sym (struct_first i t e) ∙ ap (place d.structs) same ∙ struct_first k u f)

  one_function : (i k : ℕ) (f g : FunctionDecl) → FunctionAt i f → FunctionAt k g → name_of_function f ≡ name_of_function g → i ≡ k
  one_function i k f g e h same = same_Some i k (sym (function_first i f e) ∙ ap (place d.functions) same ∙ function_first k g h)

  one_inner : (i : ℕ) (t : StructDecl) → StructAt i t → (j l : ℕ) (f g : FunctionDecl) → slice_get t.functions j ≡ Some f
      → slice_get t.functions l ≡ Some g
      → name_of_function f ≡ name_of_function g → j ≡ l
  one_inner i t at j l f g e h same =
      same_Some j l (sym (inner_first i t at j f e) ∙ ap (place (inner_names w t)) same ∙ inner_first i t at l g h)

  not_both : (i k : ℕ) (t : StructDecl) (f : FunctionDecl) → StructAt i t → FunctionAt k f → name_of_struct t ≡ name_of_function f → ⊥
  not_both i k t f e h same =
      stand.apart t f (get_contains w.skeleton.structs i t e) (get_contains w.skeleton.functions k f h)
      (omega (arith, no_later, no_earlier))
    where
      function_offset : offset_of d.functions k ≡ function_start f
      function_offset = ap (λ o. elim o as (λ _. ℕ) [ None ↦ 0 | Some a ↦ a.at ])
          (stands w.text (λ (f : FunctionDecl). f.name) w.skeleton.functions k f h)

      struct_offset : offset_of d.structs i ≡ struct_start t
      struct_offset =
          ap (λ o. elim o as (λ _. ℕ) [ None ↦ 0 | Some a ↦ a.at ]) (stands w.text (λ (t : StructDecl). t.name) w.skeleton.structs i t e)

      no_later : struct_start t ≤ function_start f
      no_later =
          let l = not_earlier d.functions (name_of_struct t) (struct_start t) k (ap (place d.functions) same ∙ function_first k f h)
          (not_before w.text (λ (t : StructDecl). t.name) w.skeleton.structs d.functions (structs_alone w names) i t e) in
          omega (arith, l, function_offset)

      no_earlier : function_start f ≤ struct_start t
      no_earlier =
          let l = not_earlier d.structs (name_of_function f) (function_start f) i (ap (place d.structs) (sym same) ∙ struct_first i t e)
          (not_before w.text (λ (f : FunctionDecl). f.name) w.skeleton.functions d.structs (functions_alone w names) k f h) in
          omega (arith, l, struct_offset)

  -- ---- one signature

  pub one : (outer : Option Bytes) (name : Bytes) (g h : Signature) → IsNamed w outer name g → IsNamed w outer name h → g ≡ h
  one outer name (Struct i) (Struct k) m n =
      let (t, at) = there_is w.skeleton.structs i m.is_in in
      let (u, there) = there_is w.skeleton.structs k n.is_in in
      ap Struct (one_struct i k t u at there (sym (ap (struct_name w) at) ∙ m.called ∙ sym n.called ∙ ap (struct_name w) there))
  one outer name (Function i) (Function k) m n =
      let (f, at) = there_is w.skeleton.functions i m.is_in in
      let (g, there) = there_is w.skeleton.functions k n.is_in in
      ap Function (one_function i k f g at there (sym (ap (function_name w) at) ∙ m.called ∙ sym n.called ∙ ap (function_name w) there))
  one outer name (Struct i) (Function k) m n =
      let (t, at) = there_is w.skeleton.structs i m.is_in in
      let (f, there) = there_is w.skeleton.functions k n.is_in in
      absurd (not_both i k t f at there (sym (ap (struct_name w) at) ∙ m.called ∙ sym n.called ∙ ap (function_name w) there))
  one outer name (Function k) (Struct i) m n =
      let (t, at) = there_is w.skeleton.structs i n.is_in in
      let (f, there) = there_is w.skeleton.functions k m.is_in in
      absurd (not_both i k t f at there (sym (ap (struct_name w) at) ∙ n.called ∙ sym m.called ∙ ap (function_name w) there))
  one outer name (Nested i j) (Nested k l) m n =
      let (t, at, within) = m.is_in in
      let (u, there, inside) = n.is_in in
      let (f, at_f) = there_is t.functions j within in
      let (g, at_g) = there_is u.functions l inside in
      let structs = same_Some (name_of w (Struct i)) (name_of w (Struct k)) (m.around ∙ sym n.around) in
      let same = one_struct i k t u at there (sym (ap (struct_name w) at) ∙ structs ∙ ap (struct_name w) there) in
      let struct_same = same_Some t u (sym at ∙ ap (slice_get w.skeleton.structs) same ∙ there) in
      let called = sym (ap (λ o. function_name w (slice_get (functions_of o) j)) at ∙ ap (function_name w) at_f) ∙ m.called in
      let so = sym (ap (λ o. function_name w (slice_get (functions_of o) l)) there ∙ ap (function_name w) at_g) ∙ n.called in
      let functions =
      one_inner i t at j l f g at_f (ap (λ (v : StructDecl). slice_get v.functions l) struct_same ∙ at_g) (called ∙ sym so) in
      λ x. Nested (same x) (functions x)
  one outer name (Struct i) (Nested k l) m n = let clash = m.around ∙ sym n.around in absurd cc
  one outer name (Function i) (Nested k l) m n = let clash = m.around ∙ sym n.around in absurd cc
  one outer name (Nested i j) (Struct k) m n = let clash = m.around ∙ sym n.around in absurd cc
  one outer name (Nested i j) (Function k) m n = let clash = m.around ∙ sym n.around in absurd cc
