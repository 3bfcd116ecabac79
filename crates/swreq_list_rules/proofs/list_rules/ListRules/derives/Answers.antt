use Rattle.std.proofs.Common.{sym, subst}
use Rattle.swreq_list_rules.specs.ListRules.{AreRulesOfList, ListRulesView}
use Rattle.swreq_list_rules.proofs.list_rules.ListRules.derives.Goals as goal

pub returns : goal.returns
returns c list are = c.is_derivable_by.ensures list
    (subst (λ (z : ListRulesView). AreRulesOfList c.args.setting.now list z.rules) (sym c.self.view_is) are.rules)
