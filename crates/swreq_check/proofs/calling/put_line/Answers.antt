use Rattle.std.proofs.Common.{◌≡◌, ◌∙◌, ◌++◌, None, Some, ap, map, refl, slice_get, subst, sym}
use Rattle.std.proofs.lemmas.Option.{get_or_from_slice_get, same_Some}
use Rattle.swreq_machine.proofs.swreq_lemmas.Elements.{get_map}
use Rattle.swreq_subst.specs.Calls.{IsCallIn, call_by}
use Rattle.swreq_subst.specs.Lines.{IsLineOf}
use Rattle.swreq_check.specs.Passed.{world_of}
use Rattle.swreq_check.proofs.Callers.{machine_for}
use Rattle.swreq_check.proofs.calling.put_line.Goals as goal

pub call_at-call-requires : goal.call_at-call-requires
call_at-call-requires c = c.requires.place.0

pub call_text-requires-clause-call : goal.call_text-requires-clause-call
call_text-requires-clause-call c =
    let called = c.args.of.now.called in
    let call = c.call_at-call.result.now in
    subst (IsCallIn c.args.table.now called.passed.world.now)
    (get_or_from_slice_get called.calls.now c.args.place call call c.call_at-call.ensures)
    (c.requires.machine.called.calls c.args.place call c.requires.place.0)

pub call_text-requires-clause-machine : goal.call_text-requires-clause-machine
call_text-requires-clause-machine c =
    let of = c.args.of.now in
    machine_for (world_of c.args.table.now of.called.passed) of.f c.args.machine.now of.called.calls.now c.args.place
    c.call_at-call.result.now c.requires.machine.machine c.requires.place.1 c.call_at-call.ensures

pub returns-clause-line : goal.returns-clause-line
returns-clause-line c =
    let terms = c.args.table.now in
    let called = c.args.of.now.called in
    let w = world_of terms called.passed in
    let calls = called.calls.now in
    let place = c.args.place in
    let call = c.call_at-call.result.now in
    let (line, is, grown) = c.in_ok-call_text.ensures.line in
    let same : c.new.result ≡ line = c.new.ensures ∙ grown ∙ ap (λ z. z ++ line) c.new-line.ensures.items in
    let at : slice_get calls place ≡ Some call = c.call_at-call.ensures in
    let there : slice_get (map (call_by terms) calls) place ≡ Some (call_by terms call) = get_map (call_by terms) calls place call at in (
      record { text = c.new.result; verdict = None },
      (λ d e. subst (λ z. IsLineOf w z c.new.result) (same_Some (call_by terms call) d (sym there ∙ e))
          (subst (IsLineOf w (call_by terms call)) (sym same) is)),
      refl,
    )
