use Rattle.std.proofs.Common.{◌≡◌, [], arith, length, subst, sym}
use Rattle.std.proofs.lemmas.List.{length-map}
use Rattle.swreq_births.proofs.swreq_param.Growing.{onward, unchanged}
use Rattle.swreq_births.proofs.swreq_watch.Told.{grew_none}
use Rattle.swreq_machine.specs.swreq_world.ByTable.{signature_by}
use Rattle.swreq_check.specs.Machines.SignaturesCome.{all}
use Rattle.swreq_check.proofs.OfChecks.{came_more, err_is, stopped_at}
use Rattle.swreq_check.proofs.Settled.{made_alike, ready_on, world_on}
use Rattle.swreq_check.proofs.checking.check_all.Goals as goal

pub loop-k-init : goal.loop-k-init
loop-k-init g c =
    (([], all, grew_none (g.W.Watch.told c.args.watch.now)), c.requires.pieces, c.requires.ready, tt, unchanged c.args.table.now)

pub invariant_of-turn : goal.invariant_of-turn
invariant_of-turn g c = record { in_text = omega (arith, c.functions-k-end.ensures, c.loop-k-test.true) }

pub returns-in_err-kept-clause-check : goal.returns-in_err-kept-clause-check
returns-in_err-kept-clause-check g c =
    let s = c.args.s.now in
    rw (err_is c.from_residual.result _ c.from_residual.ensures.1)
    (stopped_at _ _ _ (world_on c.args.table.now c.loop-k.table s c.loop-k.invariant.4 c.requires.ready) _ c.loop-k.k
    (omega (arith, length-map s.world.now.signatures (signature_by c.args.table.now), c.functions-k-end.ensures, c.loop-k-test.true)) _ _ _
    c.loop-k.invariant.0 c.in_err-kept.field-0.0 c.in_err-kept.ensures.check)

pub loop-k-preserved : goal.loop-k-preserved
loop-k-preserved g c =
    let s = c.args.s.now in (
      came_more _ _ _ (world_on c.args.table.now c.loop-k.table s c.loop-k.invariant.4 c.requires.ready) _ c.loop-k.k
          (omega (arith, length-map s.world.now.signatures (signature_by c.args.table.now), c.functions-k-end.ensures, c.loop-k-test.true))
          _ _ _
          c.loop-k.invariant.0 tt c.in_ok-kept.ensures.check,
      subst (λ T. T) (sym (made_alike c.loop-k.table c.check_one.new.table s c.in_ok-kept.ensures.extends c.loop-k.invariant.2 _ _))
          c.in_ok-kept.ensures.pieces,
      ready_on c.loop-k.table c.check_one.new.table s c.in_ok-kept.ensures.extends c.loop-k.invariant.2,
      c.in_ok-kept.ensures.kept,
      onward c.args.table.now c.loop-k.table c.check_one.new.table c.loop-k.invariant.4 c.in_ok-kept.ensures.extends,
    )

pub returns-clause-pieces : goal.returns-clause-pieces
returns-clause-pieces g c =
    let s = c.args.s.now in
    let all : c.loop-k.k ≡ length s.world.now.signatures =
    omega (arith, c.functions-k-end.ensures, c.loop-k-test.false, c.loop-k.auto.k-end) in
    subst (λ T. T) (made_alike c.args.table.now c.loop-k.table s c.loop-k.invariant.4 c.requires.ready _ _)
    (rw (← all) c.loop-k.invariant.1)
