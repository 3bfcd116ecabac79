use Rattle.std.proofs.Common.{inl, inr, drop, sym, subst, arith}
use Rattle.std.proofs.lemmas.Bool.{cases_eq, false≢true}
use Rattle.swreq_complete.proofs.swreq_word.Cuts.{whole_rest}
use Rattle.swreq_map.specs.Follows.{IsKept}
use Rattle.swreq_map.proofs.map.PropertyMap.is_candidate.Goals as goal

pub loop-at-preserved : goal.loop-at-preserved
loop-at-preserved c at from l f = elim (cases_eq at c.loop-at.at) [
  | inl e ↦ (let u = c.args.u.now in
      let here = subst (λ k. IsKept c.args.self.now (drop k u) c.args.x) e f in
      let ending = subst (λ v. IsKept c.args.self.now v c.args.x) (sym (whole_rest u c.loop-at.at)) here in
      false≢true (c.if-keeps.ensures ending))
  | inr e ↦ c.loop-at.invariant at from (omega (arith, l, e)) f
]

pub returns : goal.returns
returns c at from l f = absurd (c.loop-at.invariant at from (omega (arith, l, c.loop-at-test.false)) f)
