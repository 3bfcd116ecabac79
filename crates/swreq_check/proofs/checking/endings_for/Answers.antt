use Rattle.std.proofs.Common.{subst₂}
use Rattle.swreq_machine.specs.swreq_map.Follows.{AreEndingsOf}
use Rattle.swreq_check.proofs.checking.endings_for.Goals as goal

pub returns-in_ok-endings-in-Lines : goal.returns-in_ok-endings-in-Lines
returns-in_ok-endings-in-Lines c =
    subst₂ (λ n rs. AreEndingsOf n rs c.in_ok-endings-in-Lines.endings) c.protocols.ensures c.rules.ensures c.in_ok-endings-in-Lines.ensures
