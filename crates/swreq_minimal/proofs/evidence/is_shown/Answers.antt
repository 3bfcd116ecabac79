use Rattle.std.proofs.Common.{◌∙◌}
use Rattle.std.proofs.lemmas.Result.{IfOk-weaker}
use Rattle.swreq_minimal.proofs.evidence.is_shown.Goals as goal

pub returns-then-len-lt4294967295 : goal.returns-then-len-lt4294967295
returns-then-len-lt4294967295 c =
    IfOk-weaker c.shows_last.result _ _
    (λ b law h. law h c.args.rules.items c.args.rule (c.deref.ensures.value ∙ c.in_ok-push.ensures.items))
    c.shows_last.ensures
