use Rattle.std.proofs.Common.{◌∙◌, ◌∷◌, [], ap, subst}
use Rattle.swreq_machine.specs.swreq_complete.Answers.{IsAnswer}
use Rattle.swreq_machine.specs.swreq_correspondence.Symbols.{left_side, right_side}
use Rattle.swreq_machine.specs.swreq_derive.Derivation.Source.{Written}
use Rattle.swreq_list_rules.specs.declared.setting.Setting.{Setting}
use Rattle.swreq_list_rules.specs.Settings.{says_in, symbols_in}
use Rattle.swreq_list_rules.proofs.Growing.{completed}
use Rattle.swreq_list_rules.proofs.settling.completed_by.Goals as goal

pub returns : goal.returns
returns c =
    completed c.args.setting.now (says_in c.args.setting.now c.args.r) c.args.rules c.in_ok-sides.sides.0 c.in_ok-sides.sides.1
    (c.in_ok-sides.ensures.left
    ∙ ap (λ (z : Setting). left_side (symbols_in z) (Written [] []) (says_in z c.args.r)) c.setting.view_is)
    (c.in_ok-sides.ensures.right
    ∙ ap (λ (z : Setting). right_side (symbols_in z) (Written [] []) (says_in z c.args.r)) c.setting.view_is)
    c.extend.result
    (subst (λ (z : Setting). IsAnswer z.limits c.args.rules (c.in_ok-sides.sides ∷ []) c.extend.result) c.setting.view_is
    c.extend.ensures.answer)
