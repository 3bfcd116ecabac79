-- Calls of the signatures of a world over ids, and of the same world over type parameters.
use Rattle.std.proofs.Common.{◌≡◌, not, List, [], ◌∷◌, ◌++◌, Option, Some, None, length, refl, ap, ap₂, ◌∙◌, arith}
use Rattle.std.specs.Prelude.{nat_eq}
use Rattle.std.specs.Option.{option_map}
use Rattle.swreq_resolve.specs.swreq_decl.declared.skeleton.CallDecl.{CallDecl}
use Rattle.swreq_resolve.specs.swreq_decl.declared.skeleton.TypeDecl.{TypeDecl}
use Rattle.swreq_resolve.specs.swreq_names.Spaces.{word}
use Rattle.swreq_machine.specs.swreq_param.Terms.{Term}
use Rattle.swreq_resolve.specs.swreq_rank.Ranks.{Bytes}
use Rattle.swreq_resolve.specs.declared.refusal.Fault.TheVariants.{WrongArity}
use Rattle.swreq_resolve.specs.declared.refusal.Refusal.{Refusal}
use Rattle.swreq_resolve.specs.First.{when}
use Rattle.swreq_machine.specs.swreq_lowering.declared.ids.FuncId.{FuncId}
use Rattle.swreq_machine.specs.swreq_lowering.Requirements.{PlacedRequirement}
use Rattle.swreq_machine.proofs.swreq_symbols.OfText.{signature_is}
use Rattle.swreq_machine.specs.swreq_world.ByTable.{world_by}
use Rattle.swreq_machine.specs.swreq_world.Worlds.{IdWorld, SignatureOver}
use Rattle.swreq_machine.proofs.swreq_world.Finding.{func_by, named_from, param_by}
use Rattle.swreq_subst.specs.Arguments.{param_count}
use Rattle.swreq_subst.specs.Calls.{TermCall}
use Rattle.swreq_subst.specs.Refusals.{func_called, of_call, of_count, of_name, of_types, refusals, signature_called}
use Rattle.swreq_subst.specs.Saying.{OneByOne, SayCalls, SaysArgument, SaysCall}

-- ---- what is written

module _ (terms : List Term) (w : IdWorld) (text : Bytes) where
  argument_by : (f : FuncId) (a : Option Term) (t : TypeDecl) → SaysArgument w text f a t → SaysArgument (world_by terms w) text f a t
  argument_by f (Some u) t h = record { param = h.param; head = param_by terms w f (word text t.head) ∙ h.head; steps = h.steps }
  argument_by f None t h = h

  each_by : {A B : Type 0} (Is Was : A → B → Type 0) → ((x : A) (y : B) → Is x y → Was x y) → (xs : List A) (ys : List B)
      → OneByOne Is xs ys → OneByOne Was xs ys
  each_by Is Was to [] [] h = tt
  each_by Is Was to [] (y ∷ ys) h = absurd h
  each_by Is Was to (x ∷ xs) [] h = absurd h
  each_by Is Was to (x ∷ xs) (y ∷ ys) h = (to x y h.0, each_by Is Was to xs ys h.1)

  call_by_table : (c : TermCall) (d : CallDecl) → SaysCall w text c d → SaysCall (world_by terms w) text c d
  call_by_table c d h = record {
    caller = named_from terms w (option_map (word text) d.caller_outer) (word text d.caller) c.f h.caller;
    callee = named_from terms w (option_map (word text) d.callee_outer) (word text d.callee) c.g h.callee;
    args = each_by (SaysArgument w text c.f) (SaysArgument (world_by terms w) text c.f) (argument_by c.f) c.args d.args h.args;
  }

  pub say_by_table : (cs : List TermCall) (ds : List CallDecl) → SayCalls w text cs ds → SayCalls (world_by terms w) text cs ds
  say_by_table cs ds h = each_by (SaysCall w text) (SaysCall (world_by terms w) text) call_by_table cs ds h

  -- ---- what is refused

  count_by : (o : Option FuncId) (c : CallDecl) → of_count (world_by terms w) text o c ≡ of_count w text o c
  count_by None c = refl
  count_by (Some g) c =
      ap (λ (h : SignatureOver PlacedRequirement). when (not (nat_eq (length c.args) (param_count h.params))) WrongArity c.callee.start)
      (signature_is w terms g)

  refusals_of : (c : CallDecl) → of_call (world_by terms w) text c ≡ of_call w text c
  refusals_of c =
      let called = func_by terms w (option_map (word text) c.callee_outer) (word text c.callee) in
      let count = ap (λ o. of_count (world_by terms w) text o c) called ∙ count_by (func_called w text c.callee_outer c.callee) c in
      ap (λ (rs : List Refusal). of_name w text c.caller_outer c.caller ++ (of_name w text c.callee_outer c.callee
      ++ (rs ++ of_types w text (signature_called w text c.caller_outer c.caller) c.args))) count

  pub refusals_by_table : (calls : List CallDecl) → refusals (world_by terms w) text calls ≡ refusals w text calls
  refusals_by_table [] = refl
  refusals_by_table (c ∷ calls) = ap₂ ◌++◌ (refusals_of c) (refusals_by_table calls)
