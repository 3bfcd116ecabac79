use Rattle.std.proofs.Common.{[]}
use Rattle.std.proofs.lemmas.Result.{IfOk-weaker}
use Rattle.swreq_minimal.proofs.Halving.{if_some_weaker}
use Rattle.swreq_minimal.proofs.extending.rules_of.Goals as goal

pub returns : goal.returns
returns c =
    IfOk-weaker c.extended.result _ _ (λ o. if_some_weaker _ _ o (λ new grew. grew [] c.in_ok-rules.ensures)) c.extended.ensures
