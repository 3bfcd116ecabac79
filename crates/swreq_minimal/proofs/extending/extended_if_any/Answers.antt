use Rattle.std.proofs.lemmas.Result.{IfOk-weaker}
use Rattle.swreq_minimal.proofs.Halving.{if_some_weaker}
use Rattle.swreq_minimal.proofs.extending.extended_if_any.Goals as goal

pub extended-requires-clause-waiting : goal.extended-requires-clause-waiting
extended-requires-clause-waiting c = rw c.in-Some.is at c.requires.waiting

pub returns-in-Some : goal.returns-in-Some
returns-in-Some c =
    IfOk-weaker c.extended.result _ _ (λ o. if_some_weaker _ _ o (λ new grew. (c.in-Some.rules, c.in-Some.is, grew))) c.extended.ensures
