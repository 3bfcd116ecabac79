use Rattle.std.proofs.Common.{◌≡◌, ◌+◌, arith, List, subst, suc, sym, ℕ}
use Rattle.std.proofs.lemmas.Option.{slice_get-get_or}
use Rattle.swreq_reqsig.specs.Named.{AreNamedBefore}
use Rattle.swreq_reqsig.proofs.Naming.{named_all, named_none, named_on}
use Rattle.swreq_reqsig.proofs.named.named.Goals as goal

pub note_outline-requires : goal.note_outline-requires
note_outline-requires c a names =
    let l = c.requires c.loop-k.k _ (slice_get-get_or c.args.outlines.now c.loop-k.k _ c.loop-k-test.true) a names in
    let e = c.loop-k.invariant.lists_are in omega (arith, l, e)

pub loop-k-init : goal.loop-k-init
loop-k-init c =
    subst (λ (z : List (List ℕ)). AreNamedBefore c.args.outlines.now 0 (c.args.names + 1) z) (sym c.in_ok-lists.ensures)
    (named_none c.args.outlines.now (c.args.names + 1))

pub loop-k-preserved : goal.loop-k-preserved
loop-k-preserved c =
    let next : suc c.loop-k.k ≡ c.loop-k.k + 1 = omega arith in
    subst (λ (n : ℕ). AreNamedBefore c.args.outlines.now n (c.args.names + 1) c.note_outline.new.lists) next
    (named_on c.args.outlines.now (c.args.names + 1) c.loop-k.k _ c.loop-k.lists c.note_outline.new.lists
    (slice_get-get_or c.args.outlines.now c.loop-k.k _ c.loop-k-test.true) c.loop-k.invariant c.in_ok-note_outline.ensures)

pub returns : goal.returns
returns c =
    named_all c.args.outlines.now (c.args.names + 1) c.loop-k.k c.loop-k.lists c.loop-k-test.false c.loop-k.invariant
