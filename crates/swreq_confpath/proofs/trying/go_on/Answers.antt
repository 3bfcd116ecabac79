use Rattle.std.proofs.Common.{◌≡◌, List, length, sym, ap, subst, arith}
use Rattle.swreq_machine.specs.swreq_derive.declared.requirements.Requirement.{Requirement}
use Rattle.swreq_machine.specs.swreq_derive.declared.requirements.Requirement.TheVariants.{Conf}
use Rattle.swreq_confpath.specs.Searches.{AimView, IsAim, IsPlaceIn, required_at}
use Rattle.swreq_confpath.proofs.Requirements.{numbered_at}
use Rattle.swreq_confpath.proofs.Searching.{few_tried, finished, place_tried, turned}
use Rattle.swreq_confpath.proofs.trying.go_on.Goals as goal

pub required_at-list-requires : goal.required_at-list-requires
required_at-list-requires c =
    subst (λ (a : AimView). IsPlaceIn a.sought.text.world.now c.in_ok-from.from) (sym c.aim.view_is)
    (place_tried c.args.aim.now.sought c.args.tried.now c.args.next c.requires.so_far (c.spot.result.0.now, c.spot.result.1.now)
    c.spot.ensures c.in_ok-from.from c.in_ok-from.ensures)

pub loop-k-init : goal.loop-k-init
loop-k-init c =
    turned c.args.aim.now.sought (subst IsAim c.aim.view_is c.aim.invariant).known c.args.tried.now c.args.next
    (c.spot.result.0.now, c.spot.result.1.now) c.in_ok-from.from c.spot.ensures c.in_ok-from.ensures c.requires.so_far

pub overflow_cast-number : goal.overflow_cast-number
overflow_cast-number c =
    let from = c.in_ok-from.from in
    let few = few_tried c.args.aim.now (subst IsAim c.aim.view_is c.aim.invariant) c.args.tried.now c.args.next c.requires.so_far
    (c.spot.result.0.now, c.spot.result.1.now) c.spot.ensures from c.in_ok-from.ensures c.required_at-list.result.now
    (subst (λ (a : AimView). c.required_at-list.result.now ≡ required_at a.sought.text.world.now a.sought.list.now from) c.aim.view_is
    c.required_at-list.ensures) in
    let within = c.loop-k-test.true in
    omega (arith, few, within)

pub overflow_add-number : goal.overflow_add-number
overflow_add-number c =
    let from = c.in_ok-from.from in
    let few = few_tried c.args.aim.now (subst IsAim c.aim.view_is c.aim.invariant) c.args.tried.now c.args.next c.requires.so_far
    (c.spot.result.0.now, c.spot.result.1.now) c.spot.ensures from c.in_ok-from.ensures c.required_at-list.result.now
    (subst (λ (a : AimView). c.required_at-list.result.now ≡ required_at a.sought.text.world.now a.sought.list.now from) c.aim.view_is
    c.required_at-list.ensures) in
    let within = c.loop-k-test.true in
    omega (arith, few, within)

pub try_requirement-requires-clause-number : goal.try_requirement-requires-clause-number
try_requirement-requires-clause-number c =
    let s = c.args.aim.now.sought in
    let from = c.in_ok-from.from in
    let list = subst (λ (a : AimView). c.required_at-list.result.now ≡ required_at a.sought.text.world.now a.sought.list.now from)
    c.aim.view_is c.required_at-list.ensures in
    numbered_at (required_at s.text.world.now s.list.now from) c.required_at-list.result.now c.loop-k.k
    (Conf (record { place = 0 }) (record { rank = 0 })) list c.loop-k-test.true

pub returns : goal.returns
returns c =
    let from = c.in_ok-from.from in
    let same = subst (λ (a : AimView). c.required_at-list.result.now ≡ required_at a.sought.text.world.now a.sought.list.now from)
    c.aim.view_is c.required_at-list.ensures in
    let list = ap (λ (z : List Requirement). length z) same in
    let last = c.loop-k-test.false in
    finished c.args.aim.now.sought (subst IsAim c.aim.view_is c.aim.invariant).known c.loop-k.tried c.args.next from c.loop-k.k
    c.loop-k.invariant (omega (arith, list, last))
