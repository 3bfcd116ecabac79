use Rattle.std.proofs.Common.{◌≡◌, ◌+◌, ◌∙◌, ap, arith, length, ℕ, Some, get_or, subst, sym}
use Rattle.std.proofs.lemmas.List.{get_or_default}
use Rattle.swreq_machine.specs.swreq_lowering.declared.ids.FuncId.{FuncId}
use Rattle.swreq_births.proofs.swreq_param.Growing.{onward, unchanged}
use Rattle.swreq_check.specs.CallLines.{caller_at}
use Rattle.swreq_check.specs.Called.{IsLineFor}
use Rattle.swreq_check.specs.Made.{AreMadeTo}
use Rattle.swreq_check.proofs.Callers.{line_under, machine_by}
use Rattle.swreq_check.proofs.PiecesMade.{begin, go_on, go_through}
use Rattle.swreq_check.proofs.Placed.{placed_of, same_signature}
use Rattle.swreq_check.proofs.calling.put_all.Goals as goal

pub loop-j-init : goal.loop-j-init
loop-j-init c =
    let of = c.args.of.now in
    let calls = of.called.calls.now in record {
      extends = unchanged c.args.table.now;
      machine = c.requires.machine;
      made = begin (IsLineFor c.args.table.now of.called) (caller_at calls) (length calls) of.f.place c.args.lines.now.items
          c.requires.lines of.places.now;
    }

pub put_line-requires-clause-place : goal.put_line-requires-clause-place
put_line-requires-clause-place c =
    let places = c.args.of.now.places.now in
    let place = get_or places c.loop-j.j 0 in
    (placed_of c.args.of.now place).0
    (c.loop-j.j, c.loop-j-test.true, get_or_default places c.loop-j.j place 0 c.loop-j-test.true)

pub loop-j-preserved : goal.loop-j-preserved
loop-j-preserved c =
    let old = c.args.table.now in
    let mid = c.loop-j.table in
    let new = c.put_line.new.table in
    let of = c.args.of.now in
    let calls = of.called.calls.now in
    let f = of.f in
    let places = of.places.now in
    let i = c.loop-j.invariant in
    let more = c.in_ok-put_line.ensures.extends in
    let (line, is, put) = c.in_ok-put_line.ensures.line in
    let place = get_or places c.loop-j.j 0 in
    let Is = IsLineFor old of.called in
    let here = (placed_of of place).0
    (c.loop-j.j, c.loop-j-test.true, get_or_default places c.loop-j.j place 0 c.loop-j-test.true) in record {
      extends = onward old mid new i.extends more;
      machine = machine_by mid new more _ _ i.machine;
      made = subst (AreMadeTo Is (caller_at calls) (length calls) f.place places (c.loop-j.j + 1)) (sym put)
          (go_on Is (caller_at calls) (length calls) f.place places c.loop-j.j c.loop-j.lines.items i.made here.0
          line (line_under old mid i.extends of.called c.requires.machine.called place line is));
    }

pub returns-clause-lines : goal.returns-clause-lines
returns-clause-lines c =
    let of = c.args.of.now in
    let calls = of.called.calls.now in
    let Is = IsLineFor c.args.table.now of.called in
    let places = of.places.now in
    let f = of.f in
    let all : c.loop-j.j ≡ length places = omega (arith, c.loop-j-test.false, c.loop-j.auto.j-end) in
    go_through Is (caller_at calls) (length calls) f.place places c.loop-j.lines.items
    (subst (λ (n : ℕ). AreMadeTo Is (caller_at calls) (length calls) f.place places n c.loop-j.lines.items) all c.loop-j.invariant.made)
    (λ k g below by e. (placed_of of k).1 (below, by ∙ ap (λ (z : FuncId). Some z) (same_signature g f e)))
