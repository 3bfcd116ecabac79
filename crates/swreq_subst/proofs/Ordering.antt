-- The places of generic parameters.
use Rattle.std.proofs.Common.{◌≡◌, ℕ, zero, suc, ◌+◌, ◌<◌, ◌==◌, cond, inl, inr, [], ◌∷◌, Some, length, slice_get, Contains, refl, sym, subst, ◌∙◌, arith, length-append}
use Rattle.std.proofs.lemmas.Bool.{cases_lt}
use Rattle.swreq_print.proofs.swreq_lemmas.Elements.{get_after, get_last, get_left}
use Rattle.swreq_machine.specs.swreq_param.declared.ids.ParamId.{ParamId}
use Rattle.swreq_machine.specs.swreq_derive.declared.known.Params.{Params}
use Rattle.swreq_machine.specs.swreq_derive.Facts.{generic_params, params_of_depth}
use Rattle.swreq_machine.proofs.swreq_derive.TwoDepths.{two_depths}
use Rattle.swreq_subst.specs.Arguments.{param_count, place_of}

abbrev param : ℕ → ℕ → ParamId
param d i = record { depth = d; index = i }

many_of_depth : (d n : ℕ) → length (params_of_depth d n) ≡ n
many_of_depth d zero = refl
many_of_depth d (suc n) = omega (arith, length-append (params_of_depth d n) (param d n ∷ []), many_of_depth d n)

at_depth : (d n i : ℕ) → i < n → slice_get (params_of_depth d n) i ≡ Some (param d i)
at_depth d zero i l = absurd (omega arith)
at_depth d (suc n) i l = elim (cases_lt i n) [
  | inl k ↦ get_left (params_of_depth d n) (param d n ∷ []) i (param d i) (at_depth d n i k)
  | inr k ↦
      let e : i ≡ n = omega arith in
      let last = subst (λ z. slice_get (params_of_depth d (suc n)) z ≡ Some (param d n)) (many_of_depth d n)
      (get_last (params_of_depth d n) (param d n)) in
      subst (λ z. slice_get (params_of_depth d (suc n)) z ≡ Some (param d z)) (sym e) last
]

pub all_params : (p : Params) → length (generic_params p) ≡ param_count p
all_params p =
    omega (arith, length-append (params_of_depth 0 p.outer) (params_of_depth 1 p.inner), many_of_depth 0 p.outer, many_of_depth 1 p.inner)

pub at_place : (p : Params) (g : ParamId) → Contains (generic_params p) g → slice_get (generic_params p) (place_of p g) ≡ Some g
at_place p g h = elim ((two_depths p g).0 h) [
  | inl k ↦ here 0 g k.0
      (get_left (params_of_depth 0 p.outer) (params_of_depth 1 p.inner) g.index (param 0 g.index) (at_depth 0 p.outer g.index k.1))
  | inr k ↦
      let after = get_after (params_of_depth 0 p.outer) (params_of_depth 1 p.inner) g.index ∙ at_depth 1 p.inner g.index k.1 in
      here 1 g k.0 (subst (λ n. slice_get (generic_params p) (n + g.index) ≡ Some (param 1 g.index)) (many_of_depth 0 p.outer) after)
]
  where
    here : (d : ℕ) (g : ParamId) → g.depth ≡ d → slice_get (generic_params p) (cond (d == 0) g.index (p.outer + g.index))
        ≡ Some (param d g.index) → slice_get (generic_params p) (place_of p g) ≡ Some g
    here d g e at =
        subst (λ n. slice_get (generic_params p) (cond (n == 0) g.index (p.outer + g.index)) ≡ Some g) (sym e)
        (at ∙ (λ i. Some (record { depth = sym e i; index = g.index })))
