use Rattle.std.proofs.Common.{◌∙◌, [], ap, subst₂}
use Rattle.std.specs.Bool.{Decides}
use Rattle.std.proofs.lemmas.Result.{IfOk-weaker}
use Rattle.swreq_machine.specs.swreq_derive.Derivation.Source.{Written}
use Rattle.swreq_machine.specs.swreq_correspondence.Symbols.{Word, left_side, right_side}
use Rattle.swreq_machine.specs.swreq_symbols.Vanishing.{Links}
use Rattle.swreq_list_rules.specs.declared.setting.Setting.{Setting}
use Rattle.swreq_list_rules.specs.Settings.{says_in, symbols_in}
use Rattle.swreq_list_rules.proofs.ByEquation.{held, not_held}
use Rattle.swreq_list_rules.proofs.derivable.is_derivable_by.Goals as goal

pub returns-then-not-valid : goal.returns-then-not-valid
returns-then-not-valid c list are = (
  (λ h. cc),
  λ e. absurd (not_held c.args.setting.now list c.args.rules.now are
      (says_in c.args.setting.now c.args.r)
      (λ u. let a = c.in_ok-valid.ensures.1 u in let b = c.if-not-valid.true in cc) e),
)

pub returns : goal.returns
returns c list are =
    let s = c.args.setting.now in
    let left = c.in_ok-sides.ensures.left
    ∙ ap (λ (z : Setting). left_side (symbols_in z) (Written [] []) (says_in z c.args.r)) c.setting.view_is in
    let right = c.in_ok-sides.ensures.right
    ∙ ap (λ (z : Setting). right_side (symbols_in z) (Written [] []) (says_in z c.args.r)) c.setting.view_is in
    IfOk-weaker c.are_linked.result _ _ (λ b d.
    held s list c.args.rules.now are (says_in s c.args.r) b (c.in_ok-valid.ensures.0 c.if-not-valid.false)
    (subst₂ (λ (u v : Word). Decides b (Links c.args.rules.now u v)) left right d)) c.are_linked.ensures
