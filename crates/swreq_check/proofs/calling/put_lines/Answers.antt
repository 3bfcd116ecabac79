use Rattle.std.proofs.Common.{◌≡◌, ◌∙◌, ap, arith, get_or, length, ℕ, Some, subst, sym}
use Rattle.std.proofs.lemmas.List.{get_or_default}
use Rattle.std.proofs.lemmas.Bool.{eqb-false, eqb-true}
use Rattle.swreq_machine.specs.swreq_lowering.declared.ids.FuncId.{FuncId}
use Rattle.swreq_check.specs.CallLines.{caller_at}
use Rattle.swreq_check.specs.Called.{IsLineFor}
use Rattle.swreq_check.specs.Made.{AreMadeTo}
use Rattle.swreq_check.proofs.Callers.{caller_within}
use Rattle.swreq_check.proofs.PiecesMade.{begin, go_through}
use Rattle.swreq_check.proofs.Placed.{placed_of, same_signature}
use Rattle.swreq_check.proofs.calling.put_lines.Goals as goal

pub returns-then-is_empty-clause-lines : goal.returns-then-is_empty-clause-lines
returns-then-is_empty-clause-lines c =
    let of = c.args.of.now in
    let calls = of.called.calls.now in
    let Is = IsLineFor c.args.table.now of.called in
    let places = of.places.now in
    let none : length places ≡ 0 = eqb-true _ _ (sym c.is_empty.ensures ∙ c.if-is_empty.true) in
    go_through Is (caller_at calls) (length calls) of.f.place places c.args.lines.now.items
    (subst (λ (n : ℕ). AreMadeTo Is (caller_at calls) (length calls) of.f.place places n c.args.lines.now.items) (sym none)
    (begin Is (caller_at calls) (length calls) of.f.place c.args.lines.now.items c.requires.lines places))
    (λ k g below by e. (placed_of of k).1 (below, by ∙ ap (λ (z : FuncId). Some z) (same_signature g of.f e)))

-- a signature that has calls is one of the text
pub machine_of-requires-clause-f : goal.machine_of-requires-clause-f
machine_of-requires-clause-f c =
    let of = c.args.of.now in
    let places = of.places.now in
    let some = eqb-false _ _ (sym c.is_empty.ensures ∙ c.if-is_empty.false) in
    let first = get_or places 0 0 in
    caller_within c.args.table.now of.called.passed.world.now of.called.calls.now first of.f c.requires.called.calls
    ((placed_of of first).0 (0, omega (arith, some), get_or_default places 0 first 0 (omega (arith, some)))).1
