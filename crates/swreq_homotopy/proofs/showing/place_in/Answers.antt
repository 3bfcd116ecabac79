use Rattle.std.proofs.Common.{◌≡◌, inl, inr, arith, subst}
use Rattle.std.proofs.lemmas.Bool.{cases_lt}
use Rattle.std.proofs.lemmas.Option.{slice_get_within}
use Rattle.swreq_homotopy.specs.Search.{ShowsAt}
use Rattle.swreq_homotopy.proofs.showing.place_in.Goals as goal

pub loop-at-preserved : goal.loop-at-preserved
loop-at-preserved c at l s =
    elim (cases_lt at c.loop-at.at) [
      | inl h ↦ c.loop-at.invariant at h s
      | inr h ↦ (
          let e : at ≡ c.loop-at.at = omega (arith, l, h) in
          let yes = c.shows_at.ensures.1 (subst (ShowsAt c.args.keep.now c.args.may.now c.args.steps.now) e s) in
          let no = c.if-shows_at.false in
          cc)
    ]

pub returns : goal.returns
returns c at s =
    c.loop-at.invariant at
    (let l = slice_get_within c.args.steps.now at s.bare.step s.bare.is_step in let e = c.loop-at-test.false in omega (arith, l, e)) s
