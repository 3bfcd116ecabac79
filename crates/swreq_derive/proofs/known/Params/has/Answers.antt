use Rattle.std.proofs.Common.{◌≡◌, inl, inr, sym, arith, true≢false}
use Rattle.std.proofs.lemmas.Bool.{ltb-true, lt-ltb}
use Rattle.swreq_derive.proofs.TwoDepths.{two_depths}
use Rattle.swreq_derive.proofs.known.Params.has.Goals as goal

pub returns-in-0 : goal.returns-in-0
returns-in-0 c = (
  (λ i. (two_depths c.args.self c.args.g).1 (inl (c.in-0.is, ltb-true _ _ i))),
  λ h. elim ((two_depths c.args.self c.args.g).0 h) [ inl k ↦ lt-ltb _ _ k.1 | inr k ↦ absurd (omega (arith, k.0, c.in-0.is)) ],
)

pub returns-in-1 : goal.returns-in-1
returns-in-1 c = (
  (λ i. (two_depths c.args.self c.args.g).1 (inr (c.in-1.is, ltb-true _ _ i))),
  λ h. elim ((two_depths c.args.self c.args.g).0 h) [ inl k ↦ absurd (omega (arith, k.0, c.in-1.is)) | inr k ↦ lt-ltb _ _ k.1 ],
)

pub returns-in_default : goal.returns-in_default
returns-in_default c = let z = c.in_default in (
  (λ i. absurd (true≢false (sym i))),
  λ h. elim ((two_depths c.args.self c.args.g).0 h) [
    | inl k ↦ (let e : c.args.g.depth ≡ 0 = k.0 in absurd (omega arith))
    | inr k ↦ (let e : c.args.g.depth ≡ 1 = k.0 in absurd (omega arith))
  ],
)
