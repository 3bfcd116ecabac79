use Rattle.std.proofs.Common.{◌-◌, ap, arith, length}
use Rattle.std.proofs.lemmas.Result.{err_from_is_err_and}
use Rattle.swreq_reqsig.proofs.Coming.{comes_first, comes_on, fails_on, left_at, wants_at_first}
use Rattle.swreq_reqsig.proofs.going.drop_derivable.Goals as goal

pub returns-in_err-flags-clause-failed : goal.returns-in_err-flags-clause-failed
returns-in_err-flags-clause-failed g c =
    let s = c.args.setting.now in
    let p = err_from_is_err_and c.from_residual.result c.from_residual.ensures.1 in
    rw (p.1, p.2) (wants_at_first s.text.world.now s.text.table.now s.limits (g.W.Watch.told c.args.watch.now))

pub loop-left-init : goal.loop-left-init
loop-left-init g c =
    let s = c.args.setting.now in record {
      within = (let e = ap length s.all in omega (arith, e));
      gone = comes_first s.text.world.now s.text.table.now s.limits (length s.places.now) c.in_ok-flags.flags.items
          (g.W.Watch.told c.args.watch.now) (ap length s.all) c.in_ok-flags.ensures;
    }

pub drop_if_derivable-requires-clause-at : goal.drop_if_derivable-requires-clause-at
drop_if_derivable-requires-clause-at g c =
    let t = c.loop-left-test.true in
    let w = c.loop-left.invariant.within in
    let e = ap length c.args.setting.now.all in
    omega (arith, t, w, e)

pub drop_if_derivable-requires-clause-left : goal.drop_if_derivable-requires-clause-left
drop_if_derivable-requires-clause-left g c =
    let s = c.args.setting.now in
    let t = c.loop-left-test.true in
    left_at s.text.world.now s.text.table.now s.limits c.loop-left.left (c.loop-left.left - 1) c.loop-left.flags.items
    (g.W.Watch.told c.args.watch.now) (g.W.Watch.told c.loop-left.watch) (omega (arith, t)) c.loop-left.invariant.gone

pub loop-left-preserved : goal.loop-left-preserved
loop-left-preserved g c =
    let s = c.args.setting.now in record {
      within = (let w = c.loop-left.invariant.within in omega (arith, w));
      gone = (let t = c.loop-left-test.true in
          comes_on s.text.world.now s.text.table.now s.limits c.loop-left.left (c.loop-left.left - 1) c.loop-left.flags.items
          c.drop_if_derivable.new.flags.items (g.W.Watch.told c.args.watch.now) (g.W.Watch.told c.loop-left.watch)
          (g.W.Watch.told c.drop_if_derivable.new.watch) (omega (arith, t)) c.loop-left.invariant.gone
          c.in_ok-drop_if_derivable.ensures.met);
    }

pub returns-in_err-drop_if_derivable-clause-failed : goal.returns-in_err-drop_if_derivable-clause-failed
returns-in_err-drop_if_derivable-clause-failed g c =
    let s = c.args.setting.now in
    let t = c.loop-left-test.true in
    let p = err_from_is_err_and c.from_residual-in_err-drop_if_derivable.result c.from_residual-in_err-drop_if_derivable.ensures.1 in
    rw (p.1, p.2)
    (fails_on s.text.world.now s.text.table.now s.limits c.loop-left.left (c.loop-left.left - 1) c.loop-left.flags.items
    (g.W.Watch.told c.args.watch.now) (g.W.Watch.told c.loop-left.watch) (g.W.Watch.told c.drop_if_derivable.new.watch) (omega (arith, t))
    c.loop-left.invariant.gone c.in_err-drop_if_derivable.field-0.0 c.in_err-drop_if_derivable.ensures.failed)
