use Rattle.std.proofs.Common.{arith, ◌+◌, sym, subst, length}
use Rattle.std.proofs.lemmas.Result.{err_from_is_err_and}
use Rattle.swreq_complete.specs.Progress.{UpTo, GivenBelow}
use Rattle.swreq_complete.specs.Settling.{HasCome, HasStopped}
use Rattle.swreq_complete.proofs.PairOrder.{all_done, equations_done}
use Rattle.swreq_complete.proofs.Telling.{stopped_among, stops_later, goes_later, goes_along, kept_length}
use Rattle.swreq_complete.proofs.completion.complete.Goals as goal

pub greater-init : goal.greater-init
greater-init g c =
    let a = c.args in let told = g.W.Watch.told in let new = c.settle_given.new.rules in
    let fits = c.requires.base_fits in
    record {
      goes = goes_along a.task.now.limits a.task.now.base a.task.now.given.now (GivenBelow (length a.task.now.given.now))
          (UpTo (a.task.now.base + 1)) a.rules.now new (told a.watch.now)
          (told c.settle_given.new.watch)
          (equations_done a.task.now.base a.task.now.given.now new)
          (subst (λ n.
          HasCome a.task.now.limits n a.task.now.given.now (GivenBelow (length a.task.now.given.now)) a.rules.now new (told a.watch.now)
          (told c.settle_given.new.watch)) (sym c.requires.base_is) c.in_ok-settle_given.ensures);
      new = omega arith;
      small = omega (arith, fits);
    }

pub overflow_add-greater-in-greater : goal.overflow_add-greater-in-greater
overflow_add-greater-in-greater g c =
    let k = kept_length c.args.task.now.limits c.args.task.now.base c.greater.rules c.greater.invariant.goes.kept in
    let t = c.greater-test.true in let e = c.count.ensures in let b = c.requires.base_fits in let m = c.args.task.now.limits.in_range.1 in
    omega (arith, k, t, e, b, m)

pub greater-preserved : goal.greater-preserved
greater-preserved g c =
    let a = c.args in let l = c.greater in let told = g.W.Watch.told in
    let k = kept_length a.task.now.limits a.task.now.base l.rules l.invariant.goes.kept in
    let t = c.greater-test.true in let e = c.count.ensures in
    let n = l.invariant.new in
    record {
      goes = goes_later a.task.now.limits a.task.now.base a.task.now.given.now
          (UpTo (l.greater + 1)) a.rules.now l.rules c.settle_greater.new.rules (told a.watch.now)
          (told l.watch) (told c.settle_greater.new.watch) l.invariant.goes.grown c.in_ok-settle_greater.ensures;
      new = omega (arith, n);
      small = omega (arith, k, t, e);
    }

pub returns-in_err-settle_given : goal.returns-in_err-settle_given
returns-in_err-settle_given g c =
    let a = c.args in let told = g.W.Watch.told in
    let p = err_from_is_err_and c.from_residual.result c.from_residual.ensures.1 in
    rw (p.1, p.2) (subst (λ n. HasStopped a.task.now.limits n a.task.now.given.now a.rules.now c.settle_given.new.rules (told a.watch.now)
    (told c.settle_given.new.watch) c.in_err-settle_given.field-0.0) (sym c.requires.base_is)
    (stopped_among a.task.now.limits (length a.rules.now) a.task.now.given.now a.rules.now c.settle_given.new.rules (told a.watch.now)
    (told c.settle_given.new.watch) c.in_err-settle_given.field-0.0 c.in_err-settle_given.ensures))

pub returns-in_err-settle_greater : goal.returns-in_err-settle_greater
returns-in_err-settle_greater g c =
    let a = c.args in let l = c.greater in let told = g.W.Watch.told in
    let p = err_from_is_err_and c.from_residual-in_err-settle_greater.result c.from_residual-in_err-settle_greater.ensures.1 in
    rw (p.1, p.2)
    (stops_later a.task.now.limits a.task.now.base a.task.now.given.now a.rules.now l.rules c.settle_greater.new.rules
    (told a.watch.now) (told l.watch)
    (told c.settle_greater.new.watch) l.invariant.goes.grown c.in_err-settle_greater.field-0.0 c.in_err-settle_greater.ensures)

pub returns : goal.returns
returns g c =
    let a = c.args in let l = c.greater in
    let f = c.count.ensures in let t = c.greater-test.false in (
      record {
        ended = all_done a.task.now.base a.task.now.given.now l.rules l.greater (omega (arith, f, t)) l.invariant.goes.progress;
        kept = l.invariant.goes.kept;
      },
      l.invariant.goes.grown,
    )
