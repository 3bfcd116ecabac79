use Rattle.std.proofs.Common.{refl, sym, ◌∙◌, arith, true≢false}
use Rattle.std.proofs.lemmas.Option.{slice_get_read}
use Rattle.swreq_derive.proofs.LineLemmas.{lines_say, all_derived, not_derived, first_bad, follow_more}
use Rattle.swreq_derive.proofs.checking.check.Goals as goal

pub loop-at-preserved : goal.loop-at-preserved
loop-at-preserved g c =
    follow_more c.args.table.now (g.F.Facts.meaning c.args.facts.now) c.args.lines.now c.loop-at.at
    c.index-lines-at.result c.loop-at.invariant
    (slice_get_read c.args.lines.now _ c.loop-at.at c.index-lines-at.result refl c.loop-at-test.true c.index-lines-at.is)
    (c.follows.ensures.0 c.if-not-follows.false)

pub returns-then-not-follows-clause-ok : goal.returns-then-not-follows-clause-ok
returns-then-not-follows-clause-ok g c = (
  (λ e. absurd (true≢false (sym e))),
  λ d. absurd (not_derived c.args.table.now (g.F.Facts.meaning c.args.facts.now) c.args.lines.now c.loop-at.at c.index-lines-at.result
      (slice_get_read c.args.lines.now _ c.loop-at.at c.index-lines-at.result refl c.loop-at-test.true c.index-lines-at.is)
      (λ w. true≢false (sym (c.follows.ensures.1 w) ∙ c.if-not-follows.true)) d),
)

pub returns-then-not-follows-clause-bad : goal.returns-then-not-follows-clause-bad
returns-then-not-follows-clause-bad g c =
    first_bad c.args.table.now (g.F.Facts.meaning c.args.facts.now) c.args.lines.now c.loop-at.at c.index-lines-at.result
    (slice_get_read c.args.lines.now _ c.loop-at.at c.index-lines-at.result refl c.loop-at-test.true c.index-lines-at.is)
    (λ w. true≢false (sym (c.follows.ensures.1 w) ∙ c.if-not-follows.true)) c.loop-at.invariant

pub returns-clause-ok : goal.returns-clause-ok
returns-clause-ok g c = (
  (λ e. all_derived c.args.table.now (g.F.Facts.meaning c.args.facts.now) c.args.lines.now c.loop-at.at (omega arith) c.loop-at.invariant),
  λ d. refl,
)

pub returns-clause-derived : goal.returns-clause-derived
returns-clause-derived g c =
    lines_say c.args.table.now (g.F.Facts.meaning c.args.facts.now) c.args.lines.now
    (all_derived c.args.table.now (g.F.Facts.meaning c.args.facts.now) c.args.lines.now c.loop-at.at (omega arith) c.loop-at.invariant)
