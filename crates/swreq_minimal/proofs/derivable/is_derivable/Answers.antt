use Rattle.std.proofs.Common.{◌≡◌}
use Rattle.swreq_list_rules.specs.Settings.{plan_in, said_in}
use Rattle.swreq_minimal.proofs.Telling.{out_of_memory_at_once, tells_none}
use Rattle.swreq_minimal.proofs.derivable.is_derivable.Goals as goal

pub returns-in_ok-derives-in-Some-clause-answer : goal.returns-in_ok-derives-in-Some-clause-answer
returns-in_ok-derives-in-Some-clause-answer g c =
    c.in_ok-derives-in-Some.ensures (said_in c.args.setting.now c.args.list.now) (rw c.in-Some.is at c.requires.rules)

pub returns-in_ok-derives-in-Some-clause-tells : goal.returns-in_ok-derives-in-Some-clause-tells
returns-in_ok-derives-in-Some-clause-tells g c =
    tells_none c.args.setting.now.limits (plan_in c.args.setting.now)
    (λ l. l ≡ said_in c.args.setting.now c.args.list.now) (g.W.Watch.told c.args.watch.now)

pub returns-in_err-derives-in-Some-clause-tells : goal.returns-in_err-derives-in-Some-clause-tells
returns-in_err-derives-in-Some-clause-tells g c =
    out_of_memory_at_once c.args.setting.now (λ l. l ≡ said_in c.args.setting.now c.args.list.now)
    c.from_residual.result (g.W.Watch.told c.args.watch.now) c.from_residual.ensures.1
