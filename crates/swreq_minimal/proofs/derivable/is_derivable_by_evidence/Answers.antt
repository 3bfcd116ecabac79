use Rattle.std.proofs.Common.{◌≡◌, refl}
use Rattle.swreq_list_rules.specs.Settings.{plan_in, said_in}
use Rattle.swreq_minimal.proofs.Telling.{out_of_memory_at_once, tells_none}
use Rattle.swreq_minimal.proofs.derivable.is_derivable_by_evidence.Goals as goal

pub returns-in_err-evident-clause-tells : goal.returns-in_err-evident-clause-tells
returns-in_err-evident-clause-tells g c =
    out_of_memory_at_once c.args.setting.now (λ l. l ≡ said_in c.args.setting.now c.args.list.now)
    c.from_residual.result (g.W.Watch.told c.args.watch.now) c.from_residual.ensures.1

pub returns-then-evident-clause-answer : goal.returns-then-evident-clause-answer
returns-then-evident-clause-answer g c = ((λ h. c.in_ok-evident.ensures c.if-evident.true), λ h. refl)

pub returns-then-evident-clause-tells : goal.returns-then-evident-clause-tells
returns-then-evident-clause-tells g c =
    tells_none c.args.setting.now.limits (plan_in c.args.setting.now)
    (λ l. l ≡ said_in c.args.setting.now c.args.list.now) (g.W.Watch.told c.args.watch.now)
