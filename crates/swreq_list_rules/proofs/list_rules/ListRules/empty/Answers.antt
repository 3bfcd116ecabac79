use Rattle.std.proofs.Common.{◌∙◌, ap, sym, subst, subst₂, List, []}
use Rattle.swreq_machine.specs.swreq_derive.declared.requirements.Requirement.{Requirement}
use Rattle.swreq_machine.specs.swreq_rule.declared.rules.Rule.{Rule}
use Rattle.swreq_machine.specs.swreq_valid.Checked.{base_of}
use Rattle.swreq_machine.specs.swreq_valid.Protocols.{AreRulesOf}
use Rattle.swreq_list_rules.specs.declared.setting.Setting.{Setting}
use Rattle.swreq_list_rules.specs.ListRules.{AreOfList}
use Rattle.swreq_list_rules.specs.Settings.{text_in}
use Rattle.swreq_list_rules.proofs.Growing.{empty_list}
use Rattle.swreq_list_rules.proofs.list_rules.ListRules.empty.Goals as goal

pub returns : goal.returns
returns c =
    subst₂ (λ (rules : List Rule) (waiting : List Requirement).
    AreOfList c.args.setting.now [] (record { rules = rules; waiting = waiting }))
    (sym (c.in_ok-rules.ensures ∙ c.rules.ensures ∙ ap (λ (z : Setting). base_of z.checked) c.setting.view_is))
    (sym c.new.ensures.items)
    (empty_list c.args.setting.now
    (subst (λ (z : Setting). AreRulesOf (text_in z) (base_of z.checked)) c.setting.view_is c.setting.invariant))
