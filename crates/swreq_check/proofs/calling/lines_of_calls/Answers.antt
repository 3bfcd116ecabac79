use Rattle.std.proofs.Common.{◌≡◌, ◌<◌, ◌∙◌, Some, ap, length, map, ℕ, slice_get, subst, sym}
use Rattle.std.specs.Option.{option_map}
use Rattle.std.proofs.lemmas.List.{length-map}
use Rattle.std.proofs.lemmas.Option.{get_or_from_slice_get, slice_get_within}
use Rattle.std.proofs.lemmas.Result.{IfOk-weaker}
use Rattle.swreq_machine.proofs.swreq_lemmas.Elements.{get_of_map}
use Rattle.swreq_subst.specs.declared.calls.Call.{Call}
use Rattle.swreq_subst.specs.Calls.{TermCall, call_by}
use Rattle.swreq_subst.specs.Lines.{IsLineOf}
use Rattle.swreq_check.specs.CallLines.{AreCallLines, caller_at}
use Rattle.swreq_check.specs.Passed.{world_of}
use Rattle.swreq_check.specs.Made.{text_at, text_or_none}
use Rattle.swreq_check.proofs.calling.lines_of_calls.Goals as goal

pub returns : goal.returns
returns c =
    let terms = c.args.table.now in
    let w = world_of terms c.args.p.now in
    let calls = c.args.calls.now in
    let n = length c.args.p.now.world.now.signatures in
    let lines = c.deref.result.now in
    let made : AreCallLines w terms calls n lines
    = subst (AreCallLines w terms calls n) (sym c.deref.ensures.value) c.in_ok-lines.ensures in
    let there : (k : ℕ) (d : TermCall) → slice_get (map (call_by terms) calls) k ≡ Some d → IsLineOf w d (text_at lines k)
    = λ k d e.
    (let (call, at, same) = get_of_map (call_by terms) calls k d e in
    let below : k < length calls = slice_get_within calls k call at in
    let makes : caller_at calls k ≡ Some call.f = ap (option_map (λ (z : Call). z.f)) at in
    let within : call.f.place < n
    = subst (λ (z : Call). z.f.place < n) (get_or_from_slice_get calls k call call at) (c.requires.calls k call below).caller in
    let (line, filled) = made.filled k call.f below makes within in
    subst (IsLineOf w d) (sym (ap text_or_none filled)) (made.right k line filled d e)) in
    IfOk-weaker c.joined.result _ _
    (λ v h. h w (map (call_by terms) calls) (made.counted ∙ sym (length-map calls (call_by terms))) there) c.joined.ensures
