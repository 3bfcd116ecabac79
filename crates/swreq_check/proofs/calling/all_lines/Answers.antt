use Rattle.std.proofs.Common.{◌≡◌, ◌↔◌, ◌∙◌, ◌+◌, ◌<◌, ap, arith, Contains, length, List, Some, subst, sym, Vec, ℕ}
use Rattle.std.specs.declared.alloc.Global.{Global}
use Rattle.swreq_machine.specs.swreq_lowering.declared.ids.FuncId.{FuncId}
use Rattle.swreq_births.proofs.swreq_param.Growing.{onward, unchanged}
use Rattle.swreq_check.specs.CallLines.{ArePlacesOf, caller_at}
use Rattle.swreq_check.specs.Called.{IsLineFor}
use Rattle.swreq_check.proofs.Callers.{called_on, lines_over, lines_under}
use Rattle.swreq_check.proofs.PiecesMade.{none_made}
use Rattle.swreq_check.proofs.calling.all_lines.Goals as goal

pub loop-k-init : goal.loop-k-init
loop-k-init c =
    let calls = c.args.called.now.calls.now in record {
      extends = unchanged c.args.table.now;
      called = c.requires;
      lines = none_made (IsLineFor c.args.table.now c.args.called.now) (caller_at calls) (length calls) c.in_ok-lines.lines.items
          c.in_ok-lines.ensures.0 c.in_ok-lines.ensures.1;
    }

pub invariant_of-of : goal.invariant_of-of
invariant_of-of c =
    let calls = c.args.called.now.calls.now in
    let k = c.loop-k.k in
    let d = c.index.result.now in
    let f : FuncId = record { place = k } in
    let below : k < c.functions.result = omega (arith, c.loop-k-test.true, c.functions-k-end.ensures, c.functions.ensures) in
    let are : ArePlacesOf calls f c.deref.result.now
    = λ j. subst (λ (xs : List ℕ). Contains xs j ↔ ((j < length calls) × (caller_at calls j ≡ Some f)))
    (sym (c.deref.ensures.value ∙ ap (λ (v : Vec ℕ Global). v.items) c.index.ensures)) (c.in_ok-places.ensures.each f d j below) in
    record { placed = ∣ are ∣₁ }

pub put_lines-requires-clause-lines : goal.put_lines-requires-clause-lines
put_lines-requires-clause-lines c =
    lines_over c.args.table.now c.loop-k.table c.loop-k.invariant.extends c.args.called.now c.requires c.loop-k.k c.loop-k.lines.items
    c.loop-k.invariant.lines

pub loop-k-preserved : goal.loop-k-preserved
loop-k-preserved c =
    let old = c.args.table.now in
    let mid = c.loop-k.table in
    let new = c.put_lines.new.table in
    let i = c.loop-k.invariant in
    let more = c.in_ok-put_lines.ensures.extends in record {
      extends = onward old mid new i.extends more;
      called = called_on mid new more _ i.called;
      lines = lines_under old mid i.extends c.args.called.now c.requires (c.loop-k.k + 1) c.put_lines.new.lines.items
          c.in_ok-put_lines.ensures.lines;
    }
