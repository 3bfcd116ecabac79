use Rattle.std.proofs.Common.{◌≡◌, ◌∙◌, ◌++◌, ap, sym, subst, subst₂, inl, inr, Contains, List}
use Rattle.std.proofs.lemmas.List.Elements.{Contains-append_cases}
use Rattle.swreq_machine.specs.swreq_derive.declared.requirements.Requirement.{Requirement}
use Rattle.swreq_machine.specs.swreq_rule.declared.rules.Rule.{Rule}
use Rattle.swreq_list_rules.specs.ListRules.{AreUnderway, ListRulesView}
use Rattle.swreq_list_rules.specs.Settings.{said_in}
use Rattle.swreq_list_rules.proofs.Growing.{begun, usable_members}
use Rattle.swreq_list_rules.proofs.list_rules.ListRules.with.Goals as goal

pub settle-requires : goal.settle-requires
settle-requires c = λ r h.
    elim (Contains-append_cases c.self.inside.waiting.items c.args.more.now r
    (subst (λ z. Contains z r) c.in_ok-extend_from_slice.ensures.items h)) [
      | inl i ↦ c.requires.waiting r (subst (λ (z : ListRulesView). Contains z.waiting r) c.self.view_is i)
      | inr i ↦ c.requires.more r i
    ]

pub returns : goal.returns
returns c = λ list are.
    let all : c.extend_from_slice.new.self.items ≡ c.args.self.waiting ++ c.args.more.now =
    c.in_ok-extend_from_slice.ensures.items ∙ ap (λ (z : ListRulesView). z.waiting ++ c.args.more.now) c.self.view_is in
    let s = c.args.setting.now in
    let longer = list ++ said_in s c.args.more.now in
    let some = (usable_members s list c.args.self are).0 in
    c.settle.ensures longer some
    (subst₂ (λ (rules : List Rule) (waiting : List Requirement). AreUnderway s longer some rules waiting)
    (sym (ap (λ (z : ListRulesView). z.rules) c.self.view_is)) (sym all)
    (begun s list c.args.self are c.args.more.now c.requires.more))
