-- The lists of signatures, put together of what is written in each itself.
use Rattle.std.proofs.Common.{◌≡◌, ℕ, suc, ◌<◌, List, [], ◌∷◌, ◌++◌, Option, Some, None, length, get_or, map, slice_get, refl, sym, ap, subst, ◌∙◌, arith}
use Rattle.std.proofs.lemmas.List.{length-map, map-append}
use Rattle.std.proofs.lemmas.List.Elements.{All-append, All-map, All-nil}
use Rattle.std.proofs.lemmas.Option.{slice_get_within, same_Some}
use Rattle.std.specs.List.{All}
use Rattle.swreq_lexicon.specs.swreq_names.declared.signature.Signature.{Signature}
use Rattle.swreq_lexicon.specs.swreq_names.declared.signature.Signature.TheVariants.{Struct, Function, Nested}
use Rattle.swreq_param.specs.Terms.{Term}
use Rattle.swreq_lowering.specs.declared.ids.FuncId.{FuncId}
use Rattle.swreq_lowering.specs.declared.ids.Written.{Written}
use Rattle.swreq_lowering.specs.ByTable.{placed, placed_by, AreOf, HasIdsOf}
use Rattle.swreq_lowering.specs.Requirements.{PlacedRequirement, in_struct}
use Rattle.swreq_lowering.specs.Signatures.{func_id, functions_of, in_order}
use Rattle.swreq_lowering.specs.Words.{WordsView}
use Rattle.swreq_world.specs.declared.entry.Entry.{Entry}
use Rattle.swreq_world.specs.ByTable.{signature_by}
use Rattle.swreq_world.specs.Entries.{around, entry_view, entry_meant, IsEntryOf}
use Rattle.swreq_world.specs.Own.{of_inner, own_list, own_signature}
use Rattle.swreq_world.specs.Text.{list_of, of_nested, of_nested_in, of_struct, outer_of, signature_in}
use Rattle.swreq_world.specs.Worlds.{SignatureOver}
use Rattle.swreq_param.proofs.swreq_lemmas.Elements.{there_is}
use Rattle.swreq_world.proofs.Everywhere.{all_at, at_mapped, past_mapped, stands_mapped}
use Rattle.swreq_world.proofs.Standing.{IsIn, stands}

-- lists of which each meets the other at each place
pub alike_at : {A B C : Type 0} (f : A → C) (g : B → C) (xs : List A) (ys : List B) → length xs ≡ length ys
    → ((k : ℕ) (x : A) (y : B) → slice_get xs k ≡ Some x → slice_get ys k ≡ Some y → f x ≡ g y) → map f xs ≡ map g ys
alike_at f g [] [] l h = refl
alike_at f g [] (y ∷ ys) l h = absurd (omega (arith, l))
alike_at f g (x ∷ xs) [] l h = absurd (omega (arith, l))
alike_at f g (x ∷ xs) (y ∷ ys) l h =
    let rest : length xs ≡ length ys = omega (arith, l) in
    λ i. h 0 x y refl refl i ∷ alike_at f g xs ys rest (λ k a b p q. h (suc k) a b p q) i

viewed : (terms : List Term) (all es : List Entry)
    → map (signature_by terms) (map (entry_view all) es) ≡ map (λ e. signature_by terms (entry_view all e)) es
viewed terms all [] = refl
viewed terms all (e ∷ es) = ap (λ gs. signature_by terms (entry_view all e) ∷ gs) (viewed terms all es)

module _ (w : WordsView) (order : List Signature) (terms : List Term) (es : List Entry) (standing : order ≡ in_order w.skeleton)
    (has : (k : ℕ) (g : Signature) → slice_get order k ≡ Some g → IsIn w.skeleton g)
    (meant : map (entry_meant terms) es ≡ map (own_signature w order) order) where
  count : length es ≡ length order
  count = sym (length-map es (entry_meant terms)) ∙ ap length meant ∙ length-map order (own_signature w order)

  at : (k : ℕ) (e : Entry) (g : Signature) → slice_get es k ≡ Some e → slice_get order k ≡ Some g
      → entry_meant terms e ≡ own_signature w order g
  at k e g a b =
      same_Some (entry_meant terms e) (own_signature w order g)
      (sym (stands_mapped (entry_meant terms) es k e a) ∙ ap (λ xs. slice_get xs k) meant
      ∙ stands_mapped (own_signature w order) order k g b)

  -- what a struct requires, where it stands
  of_struct_at : (i p : ℕ) → slice_get order p ≡ Some (Struct i)
      → placed terms (get_or (map (λ e. e.own) es) p []) ≡ of_struct w i (slice_get w.skeleton.structs i)
  of_struct_at i p s =
      let l = slice_get_within order p (Struct i) s in
      let (e, a) = there_is es p (omega (arith, l, count)) in
      ap (placed terms) (at_mapped (λ (e : Entry). e.own) es p e [] a)
      ∙ ap (λ (g : SignatureOver PlacedRequirement). g.requirements) (at p e (Struct i) a s)

  struct_stands : (i : ℕ) → i < length w.skeleton.structs → slice_get order (func_id order (Struct i)).place ≡ Some (Struct i)
  struct_stands i l = subst (λ (gs : List Signature). slice_get gs (func_id gs (Struct i)).place ≡ Some (Struct i)) (sym standing)
      (stands w.skeleton (Struct i) l)

  together : (g : Signature) → IsIn w.skeleton g → placed terms (around es (outer_of order g)) ++ own_list w g ≡ list_of w g
  together (Struct i) h = refl
  together (Function i) h = refl
  together (Nested i j) (t, there, l) =
      let (f, its) = there_is t.functions j l in
      ap (λ (rs : List PlacedRequirement). rs ++ own_list w (Nested i j))
      (of_struct_at i (func_id order (Struct i)).place (struct_stands i (slice_get_within w.skeleton.structs i t there)))
      ∙ (λ k. of_struct w i (there k) ++ of_inner w i j (slice_get (functions_of (there k)) j))
      ∙ (λ k. in_struct w i t ++ of_inner w i j (its k))
      ∙ sym (λ k. of_nested w i j t (its k))
      ∙ sym (λ k. of_nested_in w i j (there k))

  entry_is : (k : ℕ) (e : Entry) (g : Signature) → slice_get es k ≡ Some e → slice_get order k ≡ Some g
      → signature_by terms (entry_view es e) ≡ signature_in w order g
  entry_is k e g a b =
      let m = at k e g a b in
      let requires : placed terms (around es e.outer ++ e.own) ≡ list_of w g =
      map-append (placed_by terms) (around es e.outer) e.own ∙ (λ i. placed terms (around es (m i).outer) ++ (m i).requirements)
      ∙ together g (has k g b) in
      λ i. record {
        signature = (m i).signature;
        name = (m i).name;
        outer = (m i).outer;
        own_depth = (m i).own_depth;
        params = (m i).params;
        requirements = requires i;
      }

  pub whole_lists : map (signature_by terms) (map (entry_view es) es) ≡ map (signature_in w order) order
  whole_lists = viewed terms es es ∙ alike_at (λ e. signature_by terms (entry_view es e)) (signature_in w order) es order count entry_is

-- ---- ids of the table

module _ (terms : List Term) (es : List Entry) (are : All (IsEntryOf terms) es) where
  abbrev Has : Written → Type 0
  Has r = HasIdsOf terms r.requirement

  around_of : (o : Option FuncId) → AreOf terms (around es o)
  around_of None = All-nil Has
  around_of (Some f) = by (slice_get es f.place) refl
    where
      by : (o : Option Entry) → slice_get es f.place ≡ o → AreOf terms (around es (Some f))
      by None n = subst (AreOf terms) (sym (past_mapped (λ (e : Entry). e.own) es f.place [] n)) (All-nil Has)
      by (Some e) n =
          subst (AreOf terms) (sym (at_mapped (λ (e : Entry). e.own) es f.place e [] n)) (all_at (IsEntryOf terms) es f.place e are n)

  pub whole_of : All (λ g. AreOf terms g.requirements) (map (entry_view es) es)
  whole_of =
      All-map (λ (g : SignatureOver Written). AreOf terms g.requirements) (entry_view es) es
      (λ k e l. All-append Has (around es (get_or es k e).outer) (get_or es k e).own (around_of (get_or es k e).outer) (are k e l))
