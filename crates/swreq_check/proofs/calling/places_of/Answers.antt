use Rattle.std.proofs.Common.{◌≡◌, Some, ap, arith, get_or, length, subst}
use Rattle.std.specs.Option.{option_map}
use Rattle.std.proofs.lemmas.Option.{slice_get-get_or}
use Rattle.swreq_subst.specs.declared.calls.Call.{Call}
use Rattle.swreq_check.specs.CallLines.{caller_at}
use Rattle.swreq_check.specs.Wanted.{ArePlaces}
use Rattle.swreq_check.proofs.Placed.{none_placed}
use Rattle.swreq_check.proofs.calling.places_of.Goals as goal

pub loop-k-init : goal.loop-k-init
loop-k-init c =
    none_placed (caller_at c.args.calls.now) c.args.count c.in_ok-places.places.items c.in_ok-places.ensures.count
    c.in_ok-places.ensures.empty

pub loop-k-preserved : goal.loop-k-preserved
loop-k-preserved c =
    let calls = c.args.calls.now in
    let k = c.loop-k.k in
    let call = c.index-calls-k.result in
    let makes : caller_at calls k ≡ Some (get_or calls k call).f
    = ap (option_map (λ (z : Call). z.f)) (slice_get-get_or calls k call c.loop-k-test.true) in
    c.in_ok-add_place.ensures (caller_at calls) c.args.count makes c.loop-k.invariant

pub returns : goal.returns
returns c =
    let all : c.loop-k.k ≡ length c.args.calls.now = omega (arith, c.loop-k-test.false, c.loop-k.auto.k-end) in
    subst (λ n. ArePlaces (caller_at c.args.calls.now) c.args.count n c.loop-k.places.items) all c.loop-k.invariant
