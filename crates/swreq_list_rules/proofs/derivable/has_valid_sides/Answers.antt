use Rattle.std.proofs.Common.{◌↔◌, IfOk, IsTrue, subst}
use Rattle.swreq_list_rules.specs.declared.setting.Setting.{Setting}
use Rattle.swreq_list_rules.specs.ListRules.{AreShownBy}
use Rattle.swreq_list_rules.specs.Settings.{says_in}
use Rattle.swreq_list_rules.proofs.derivable.has_valid_sides.Goals as goal

pub returns : goal.returns
returns c =
    subst (λ (z : Setting). IfOk c.is_usable.result (λ b. IsTrue b ↔ AreShownBy z c.args.rules.now (says_in z c.args.r)))
    c.setting.view_is c.is_usable.ensures
