-- The generic parameters of two depths.
use Rattle.std.proofs.Common.{◌≡◌, ◌↔◌, ◌⊎◌, inl, inr, ℕ, zero, suc, ◌<◌, [], ◌∷◌, Contains, sym, ap, subst, arith}
use Rattle.std.proofs.lemmas.List.Elements.{Contains-push, Contains-push_cases, Contains-append_left, Contains-append_right, Contains-append_cases}
use Rattle.swreq_param.specs.declared.ids.ParamId.{ParamId}
use Rattle.swreq_derive.specs.declared.known.Params.{Params}
use Rattle.swreq_derive.specs.Facts.{params_of_depth, generic_params}
use Rattle.swreq_param.proofs.swreq_lemmas.Numbers.{last_or_below}

has_depth : (d n : ℕ) (g : ParamId) → g.depth ≡ d → g.index < n → Contains (params_of_depth d n) g
has_depth d zero g e h = absurd (omega arith)
has_depth d (suc n) g e h = elim (last_or_below g.index n (omega (arith, h))) [
  | inl k ↦ subst (Contains (params_of_depth d (suc n))) (λ i. record { depth = sym e i; index = sym k i })
      (Contains-push (params_of_depth d n) (record { depth = d; index = n }))
  | inr k ↦ Contains-append_left (params_of_depth d n) (record { depth = d; index = n } ∷ []) g (has_depth d n g e k)
]

within_depth : (d n : ℕ) (g : ParamId) → Contains (params_of_depth d n) g → (g.depth ≡ d) × (g.index < n)
within_depth d zero g h = absurd (let k = h.1 in omega arith)
within_depth d (suc n) g h = elim (Contains-push_cases (params_of_depth d n) (record { depth = d; index = n }) g h) [
  | inl k ↦ (let w = within_depth d n g k in (w.0, omega (arith, w.1)))
  | inr e ↦ (sym (ap (λ (z : ParamId). z.depth) e), omega (arith, ap (λ (z : ParamId). z.index) e))
]

pub two_depths : (p : Params) (g : ParamId)
    → Contains (generic_params p) g ↔ (((g.depth ≡ 0) × (g.index < p.outer)) ⊎ ((g.depth ≡ 1) × (g.index < p.inner)))
two_depths p g = (
  (λ h. elim (Contains-append_cases (params_of_depth 0 p.outer) (params_of_depth 1 p.inner) g h) [
    | inl k ↦ inl (within_depth 0 p.outer g k)
    | inr k ↦ inr (within_depth 1 p.inner g k)
  ]),
  λ h. elim h [
    | inl k ↦ Contains-append_left (params_of_depth 0 p.outer) (params_of_depth 1 p.inner) g (has_depth 0 p.outer g k.0 k.1)
    | inr k ↦ Contains-append_right (params_of_depth 0 p.outer) (params_of_depth 1 p.inner) g (has_depth 1 p.inner g k.0 k.1)
  ],
)
