use Rattle.std.proofs.Common.{arith}
use Rattle.std.proofs.lemmas.Result.{err_from_is_err_and}
use Rattle.swreq_valid.proofs.Retold.{birth_told, births_told, front_told, none_told, start_told}
use Rattle.swreq_valid.proofs.again.tell_round.Goals as goal

pub returns-in_err-tell-clause-err : goal.returns-in_err-tell-clause-err
returns-in_err-tell-clause-err g c =
    let p = err_from_is_err_and c.from_residual.result c.from_residual.ensures.1 in
    rw p.1 (none_told c.args.base c.args.rules.now (g.W.Watch.told c.args.watch.now) _ c.in_err-tell.ensures.err)

pub loop-k-init : goal.loop-k-init
loop-k-init g c =
    start_told c.args.base c.args.rules.now (g.W.Watch.told c.args.watch.now) (g.W.Watch.told c.tell.new.self) c.in_ok-tell.ensures.ok

pub returns-in_err-tell_birth-clause-err : goal.returns-in_err-tell_birth-clause-err
returns-in_err-tell_birth-clause-err g c =
    let p = err_from_is_err_and c.from_residual-in_err-tell_birth.result c.from_residual-in_err-tell_birth.ensures.1 in
    rw p.1
    (front_told c.args.base c.args.rules.now (g.W.Watch.told c.args.watch.now) c.loop-k.k (g.W.Watch.told c.loop-k.watch) _
    c.loop-k.invariant c.in_err-tell_birth.ensures.err)

pub loop-k-preserved : goal.loop-k-preserved
loop-k-preserved g c =
    birth_told c.args.base c.args.rules.now (g.W.Watch.told c.args.watch.now) c.loop-k.k c.rule.result.now (g.W.Watch.told c.loop-k.watch)
    (g.W.Watch.told c.tell_birth.new.watch) c.rule.ensures c.loop-k.invariant c.in_ok-tell_birth.ensures.ok

pub returns-clause-ok : goal.returns-clause-ok
returns-clause-ok g c =
    births_told c.args.base c.args.rules.now (g.W.Watch.told c.args.watch.now) c.loop-k.k (g.W.Watch.told c.loop-k.watch)
    (omega (arith, c.loop-k-test.false, c.count-k-end.ensures)) c.loop-k.invariant
