use Rattle.std.proofs.Common.{inl, inr, drop, sym, subst, arith}
use Rattle.std.proofs.lemmas.Bool.{cases_eq}
use Rattle.swreq_complete.proofs.swreq_word.Cuts.{whole_rest}
use Rattle.swreq_map.specs.Follows.{IsKept}
use Rattle.swreq_map.proofs.map.PropertyMap.candidates.Goals as goal

pub loop-at-preserved : goal.loop-at-preserved
loop-at-preserved c at x from l f = elim (cases_eq at c.loop-at.at) [
  | inl e ↦ (let here = subst (λ n. IsKept c.args.self.now (drop n c.args.u.now) x) e f in
      let ending = subst (λ v. IsKept c.args.self.now v x) (sym (whole_rest c.args.u.now c.loop-at.at)) here in
      c.in_ok-add_kept.ensures.added x ending)
  | inr e ↦ c.in_ok-add_kept.ensures.kept x (c.loop-at.invariant at x from (omega (arith, l, e)) f)
]

pub returns : goal.returns
returns c at x from l f = c.loop-at.invariant at x from (omega (arith, l, c.loop-at-test.false)) f
