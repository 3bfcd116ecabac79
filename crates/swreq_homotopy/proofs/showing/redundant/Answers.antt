use Rattle.std.proofs.Common.{◌≡◌, inl, inr, refl, arith, subst, length, Some}
use Rattle.std.specs.List.{slice_get}
use Rattle.std.proofs.lemmas.Bool.{cases_lt}
use Rattle.std.proofs.lemmas.Option.{slice_get_within, slice_get_read}
use Rattle.swreq_path.specs.declared.paths.Loop.{Loop}
use Rattle.swreq_homotopy.specs.Evidence.{Shows}
use Rattle.swreq_homotopy.proofs.Others.{same_item}
use Rattle.swreq_homotopy.proofs.showing.redundant.Goals as goal

pub loop-k-preserved : goal.loop-k-preserved
loop-k-preserved c k n round l is s =
    let loops = c.args.loops.now in
    let here = c.index-loops-k.result in
    elim (cases_lt k c.loop-k.k) [
      | inl h ↦ c.loop-k.invariant k n round h is s
      | inr h ↦ (
          let e : c.loop-k.k ≡ k = omega (arith, l, h) in
          let there : slice_get loops c.loop-k.k ≡ Some here =
          slice_get_read loops (length loops) c.loop-k.k here refl c.loop-k-test.true c.index-loops-k.is in
          let none = rw c.in_default.is at c.in_ok-evidence.ensures in
          none n (subst (λ (x : Loop). Shows c.args.keep.now c.args.may.now x n) (same_item loops k c.loop-k.k round here e is there) s))
    ]

pub returns : goal.returns
returns c n s = c.loop-k.invariant s.0 n s.1
    (let l = slice_get_within c.args.loops.now s.0 s.1 s.2 in let e = c.loop-k-test.false in omega (arith, l, e)) s.2 s.3
