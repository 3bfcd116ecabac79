-- Calls of which no name is refused, and the items of lists one by one.
use Rattle.std.proofs.Common.{◌≡◌, ◌≢◌, ℕ, suc, ◌+◌, ◌<◌, List, [], ◌∷◌, ◌++◌, Option, Some, None, length, map, take, get_or, refl, sym, ap, subst, ◌∙◌}
use Rattle.std.specs.Prelude.{All, nat_eq}
use Rattle.std.specs.List.{flat_map}
use Rattle.std.specs.Option.{option_map}
use Rattle.std.proofs.lemmas.Bool.{eqb-true}
use Rattle.std.proofs.lemmas.List.{map-append, take_more}
use Rattle.std.proofs.lemmas.List.Elements.{All-append, All-cons, All-nil}
use Rattle.swreq_resolve.specs.swreq_decl.declared.skeleton.CallDecl.{CallDecl}
use Rattle.swreq_resolve.specs.swreq_decl.declared.skeleton.Span.{Span}
use Rattle.swreq_resolve.specs.swreq_decl.declared.skeleton.TypeDecl.{TypeDecl}
use Rattle.swreq_resolve.specs.swreq_names.declared.signature.Signature.{Signature}
use Rattle.swreq_resolve.specs.swreq_names.Spaces.{nested_in, signature_of, struct_of, word}
use Rattle.swreq_resolve.specs.swreq_rank.Ranks.{Bytes}
use Rattle.swreq_resolve.specs.declared.refusal.Fault.TheVariants.{WrongArity}
use Rattle.swreq_resolve.specs.RefusedTypes.{of_type_on}
use Rattle.swreq_resolve.specs.Refusals.{of_asked, of_nested_query}
use Rattle.swreq_machine.specs.swreq_lowering.declared.ids.FuncId.{FuncId}
use Rattle.swreq_machine.specs.swreq_lowering.Signatures.{func_id}
use Rattle.swreq_machine.specs.swreq_world.Lookups.{order_of}
use Rattle.swreq_machine.specs.swreq_world.Worlds.{IdWorld, signature_at}
use Rattle.swreq_subst.specs.Arguments.{param_count}
use Rattle.swreq_subst.specs.Refusals.{declared, func_called, of_call, of_count, of_name, of_types, query_on, signature_called}
use Rattle.swreq_subst.specs.Saying.{HaveIds, OneByOne}
use Rattle.swreq_subst.proofs.Steps.{first_nothing, nothing_of_each, passes, second_nothing}

-- ---- one by one

module _ {A B : Type 0} (Is : A → B → Type 0) where
  one_more : (xs : List A) (ys : List B) (x : A) (y : B) → OneByOne Is xs ys → Is x y → OneByOne Is (xs ++ x ∷ []) (ys ++ y ∷ [])
  one_more [] [] x y h k = (k, tt)
  one_more [] (z ∷ ys) x y h k = absurd h
  one_more (z ∷ xs) [] x y h k = absurd h
  one_more (a ∷ xs) (b ∷ ys) x y h k = (h.0, one_more xs ys x y h.1 k)

  pub next_one : (xs : List A) (ys : List B) (k : ℕ) (x : A) (y : B) → k < length ys → y ≡ get_or ys k y
      → OneByOne Is xs (take k ys) → Is x y
      → OneByOne Is (xs ++ x ∷ []) (take (k + 1) ys)
  next_one xs ys k x y l at h i =
      subst (OneByOne Is (xs ++ x ∷ [])) (sym (take_more ys k y l)) (one_more xs (take k ys) x (get_or ys k y) h (subst (Is x) at i))

  pub as_many : (xs : List A) (ys : List B) → OneByOne Is xs ys → length xs ≡ length ys
  as_many [] [] h = refl
  as_many [] (y ∷ ys) h = absurd h
  as_many (x ∷ xs) [] h = absurd h
  as_many (x ∷ xs) (y ∷ ys) h = ap suc (as_many xs ys h.1)

-- One more in a list whose items mean others.
pub meant_next : {A B : Type 0} (old new : A → B) (xs more : List A) (x : A) → map new xs ≡ map old xs → more ≡ xs ++ x ∷ []
    → map new more ≡ map old xs ++ new x ∷ []
meant_next old new xs more x same e = ap (map new) e ∙ map-append new xs (x ∷ []) ∙ ap (λ z. z ++ new x ∷ []) same

pub known_next : {A : Type 0} (P : A → Type 0) (xs more : List A) (x : A) → All P xs → P x → more ≡ xs ++ x ∷ [] → All P more
known_next P xs more x h k e = subst (All P) (sym e) (All-append P xs (x ∷ []) h (All-cons P x [] k (All-nil P)))

-- ---- names that are not refused

module _ (w : IdWorld) (text : Bytes) where
  asked_there : (outer : Option Span) (name : Span) (o : Option Signature) → of_asked text (declared w) (query_on outer name) o ≡ []
      → (g : Signature) × (o ≡ Some g)
  asked_there outer name None e = absurd cc
  asked_there outer name (Some g) e = (g, refl)

  nested_there : (s name : Span) (o : Option ℕ) → struct_of (declared w) (word text s) ≡ o
      → of_nested_query text (declared w) (query_on (Some s) name) s o ≡ []
      → (g : Signature) × (signature_called w text (Some s) name ≡ Some g)
  nested_there s name None at e = absurd cc
  nested_there s name (Some i) at e =
      let (g, h) = asked_there (Some s) name (nested_in (declared w) i (word text name)) e in
      (g, ap (λ o. elim o as (λ _. Option Signature) [ None ↦ None | Some i ↦ nested_in (declared w) i (word text name) ]) at ∙ h)

  pub signature_there : (outer : Option Span) (name : Span) → of_name w text outer name ≡ []
      → (g : Signature) × (signature_called w text outer name ≡ Some g)
  signature_there None name e = asked_there None name (signature_of (declared w) (word text name)) e
  signature_there (Some s) name e = nested_there s name (struct_of (declared w) (word text s)) refl e

  pub func_there : (outer : Option Span) (name : Span) → of_name w text outer name ≡ [] → func_called w text outer name ≢ None
  func_there outer name e none =
      let (g, h) = signature_there outer name e in
      let there : func_called w text outer name ≡ Some (func_id (order_of w) g) = ap (option_map (func_id (order_of w))) h in
      let no = sym there ∙ none in absurd cc

  count_there : (o : Option FuncId) (g : FuncId) (c : CallDecl) → o ≡ Some g → of_count w text o c ≡ []
      → length c.args ≡ param_count (signature_at w g).params
  count_there None g c at e = absurd cc
  count_there (Some h) g c at e =
      let same : h ≡ g = cc in
      subst (λ (i : FuncId). length c.args ≡ param_count (signature_at w i).params) same
      (eqb-true (length c.args) (param_count (signature_at w h).params)
      (passes (nat_eq (length c.args) (param_count (signature_at w h).params)) WrongArity c.callee.start e))

  -- ---- a call

  module _ (ids : HaveIds w) (c : CallDecl) (resolves : of_call w text c ≡ []) where
    pub caller_named : of_name w text c.caller_outer c.caller ≡ []
    caller_named = first_nothing (of_name w text c.caller_outer c.caller) _ resolves

    but_caller : of_name w text c.callee_outer c.callee ++ (of_count w text (func_called w text c.callee_outer c.callee) c
        ++ of_types w text (signature_called w text c.caller_outer c.caller) c.args) ≡ []
    but_caller = second_nothing (of_name w text c.caller_outer c.caller) _ resolves

    pub callee_named : of_name w text c.callee_outer c.callee ≡ []
    callee_named = first_nothing (of_name w text c.callee_outer c.callee) _ but_caller

    but_names : of_count w text (func_called w text c.callee_outer c.callee) c
        ++ of_types w text (signature_called w text c.caller_outer c.caller) c.args ≡ []
    but_names = second_nothing (of_name w text c.callee_outer c.callee) _ but_caller

    pub count_is : (g : FuncId) → func_called w text c.callee_outer c.callee ≡ Some g
        → length c.args ≡ param_count (signature_at w g).params
    count_is g at = count_there (func_called w text c.callee_outer c.callee) g c at
        (first_nothing (of_count w text (func_called w text c.callee_outer c.callee) c) _ but_names)

    -- the types, on the caller
    module _ (f : FuncId) (called : func_called w text c.caller_outer c.caller ≡ Some f) where
      caller : (g : Signature) × (signature_called w text c.caller_outer c.caller ≡ Some g)
      caller = signature_there c.caller_outer c.caller caller_named

      same_caller : (signature_at w f).signature ≡ caller.0
      same_caller = ids.referred (option_map (word text) c.caller_outer) (word text c.caller) caller.0 f caller.1 called

      types_named : flat_map (of_type_on (declared w) caller.0 text) c.args ≡ []
      types_named =
          subst (λ o. of_types w text o c.args ≡ []) caller.1
          (second_nothing (of_count w text (func_called w text c.callee_outer c.callee) c)
          (of_types w text (signature_called w text c.caller_outer c.caller) c.args) but_names)

      pub each_named : All (λ (t : TypeDecl). of_type_on (declared w) (signature_at w f).signature text t ≡ []) c.args
      each_named k d l =
          subst (λ (g : Signature). of_type_on (declared w) g text (get_or c.args k d) ≡ []) (sym same_caller)
          (nothing_of_each (of_type_on (declared w) caller.0 text) c.args k d types_named l)
