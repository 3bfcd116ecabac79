use Rattle.std.proofs.{Common.{◌≡◌, ◌≤◌, ◌<◌, ap, arith, length, inl, inr, subst}, lemmas.{Bool.{cases_lt}, Option.{slice_get_within}}}
use Rattle.swreq_readings.specs.Alphabets.{IsParentFor, written_at}
use Rattle.swreq_readings.proofs.ReadingLemmas.{has_parent, of_text, parent_here}
use Rattle.swreq_readings.proofs.inheriting.parent_for.Goals as goal

pub bare_requirements-written-requires : goal.bare_requirements-written-requires
bare_requirements-written-requires c = of_text c.args.alphabet.now c.args.protocol c.args.name c.requires.0

pub loop-k-preserved : goal.loop-k-preserved
loop-k-preserved c = λ j q l w. elim (cases_lt j c.loop-k.k) [
  | inl i ↦ c.loop-k.invariant j q i w
  | inr i ↦ (let g = c.args.alphabet.now in
      let same : j ≡ c.loop-k.k = omega (arith, i, l) in
      c.in-None.ensures q (parent_here g c.args.protocol q c.args.name c.loop-k.k _ _ c.bare_requirements-written.ensures
      (subst (λ n. IsParentFor g c.args.protocol c.args.name n q) same w)))
]

pub unreachable-requires : goal.unreachable-requires
unreachable-requires c = has_parent c.args.alphabet.now c.args.protocol c.args.name c.requires (λ k q w.
    (let list = written_at c.args.alphabet.now c.args.protocol in
    let h : k < length list = slice_get_within list k _ w.0.2 in
    let f : length c.bare_requirements-written.result.now ≡ length list = ap length c.bare_requirements-written.ensures in
    let e : length c.bare_requirements-written.result.now ≤ c.loop-k.k = c.loop-k-test.false in
    c.loop-k.invariant k q (omega (arith, h, e, f)) w))
