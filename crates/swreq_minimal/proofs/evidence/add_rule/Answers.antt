use Rattle.std.proofs.Common.{inr}
use Rattle.swreq_minimal.proofs.evidence.add_rule.Goals as goal

pub returns-in_ok-push-in-Some : goal.returns-in_ok-push-in-Some
returns-in_ok-push-in-Some c =
    let of_rule = rw c.in-Some.is at c.in_ok-found.ensures in
    inr (c.in-Some.rule, c.in_ok-push-in-Some.ensures.items, of_rule)
