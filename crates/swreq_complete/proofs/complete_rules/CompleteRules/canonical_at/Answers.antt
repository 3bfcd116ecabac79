use Rattle.std.proofs.Common.{subst}
use Rattle.std.proofs.lemmas.Result.{IfOk-weaker}
use Rattle.swreq_complete.specs.Complete.{IsComplete}
use Rattle.swreq_complete.proofs.Answering.{reduced_in}
use Rattle.swreq_complete.proofs.complete_rules.CompleteRules.canonical_at.Goals as goal

pub returns : goal.returns
returns c =
    IfOk-weaker c.reduced_at.result _ _
    (λ o h. reduced_in c.args.self.now c.self.inside.list c.self.view_is (subst IsComplete c.self.view_is c.self.invariant)
    c.args.place o h)
    c.reduced_at.ensures
