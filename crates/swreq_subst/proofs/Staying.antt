-- A table that grows keeps types, requirements and calls.
use Rattle.std.proofs.Common.{◌≡◌, suc, List, [], ◌∷◌, Option, Some, None, map, refl, ap, ap₂, arith}
use Rattle.std.specs.Prelude.{All}
use Rattle.std.proofs.lemmas.List.Elements.{All-weaker}
use Rattle.std.specs.Option.{option_map}
use Rattle.swreq_machine.specs.swreq_param.declared.ids.TermId.{TermId}
use Rattle.swreq_machine.specs.swreq_param.Tables.{Extends, IsOf, term_at}
use Rattle.swreq_machine.specs.swreq_param.Terms.{Term}
use Rattle.swreq_machine.specs.swreq_lexicon.Views.{LexiconView}
use Rattle.swreq_machine.proofs.swreq_symbols.Growing.{type_in_stays}
use Rattle.swreq_machine.specs.swreq_world.Worlds.{IdWorld}
use Rattle.swreq_machine.specs.swreq_symbols.Known.{IsTypeIn}
use Rattle.swreq_subst.specs.declared.calls.Call.{Call}
use Rattle.swreq_subst.specs.Calls.{IsArgumentIn, IsCallIn, call_by}

module _ (old new : List Term) (more : Extends old new) where
  -- ---- types and requirements

  pub types_stay : (args : List TermId) → All (IsOf old) args → map (term_at new) args ≡ map (term_at old) args
  types_stay [] h = refl
  types_stay (t ∷ ts) h = ap₂ ◌∷◌ (more.stands t (h 0 t (omega arith))) (types_stay ts (λ k d l. h (suc k) d (omega arith)))

  pub types_in_stay : (x : LexiconView) (args : List TermId) → All (IsTypeIn old x) args → All (IsTypeIn new x) args
  types_in_stay x args h = All-weaker (IsTypeIn old x) (IsTypeIn new x) (type_in_stays old new more x) args h

  -- ---- calls

  module _ (x : LexiconView) where
    argument_in_stays : (a : Option TermId) → IsArgumentIn old x a → IsArgumentIn new x a
    argument_in_stays None h = tt
    argument_in_stays (Some t) h = type_in_stays old new more x t h

    pub arguments_in_stay : (args : List (Option TermId)) → All (IsArgumentIn old x) args → All (IsArgumentIn new x) args
    arguments_in_stay args h = All-weaker (IsArgumentIn old x) (IsArgumentIn new x) argument_in_stays args h

    argument_stays : (a : Option TermId) → IsArgumentIn old x a → option_map (term_at new) a ≡ option_map (term_at old) a
    argument_stays None h = refl
    argument_stays (Some t) h = ap (λ (u : Term). Some u) (more.stands t h.0)

    pub arguments_stay : (args : List (Option TermId)) → All (IsArgumentIn old x) args
        → map (option_map (term_at new)) args ≡ map (option_map (term_at old)) args
    arguments_stay [] h = refl
    arguments_stay (a ∷ args) h =
        ap₂ ◌∷◌ (argument_stays a (h 0 a (omega arith))) (arguments_stay args (λ k d l. h (suc k) d (omega arith)))

  pub call_in_stays : (w : IdWorld) (c : Call) → IsCallIn old w c → IsCallIn new w c
  call_in_stays w c h = record { caller = h.caller; callee = h.callee; count = h.count; args = arguments_in_stay w.lexicon c.args h.args }

  pub call_stays : (w : IdWorld) (c : Call) → IsCallIn old w c → call_by new c ≡ call_by old c
  call_stays w c h = let e = arguments_stay w.lexicon c.args h.args in λ i. record { f = c.f; g = c.g; args = e i }

  pub calls_in_stay : (w : IdWorld) (cs : List Call) → All (IsCallIn old w) cs → All (IsCallIn new w) cs
  calls_in_stay w cs h = All-weaker (IsCallIn old w) (IsCallIn new w) (call_in_stays w) cs h

  pub calls_stay : (w : IdWorld) (cs : List Call) → All (IsCallIn old w) cs → map (call_by new) cs ≡ map (call_by old) cs
  calls_stay w [] h = refl
  calls_stay w (c ∷ cs) h = ap₂ ◌∷◌ (call_stays w c (h 0 c (omega arith))) (calls_stay w cs (λ k d l. h (suc k) d (omega arith)))
