use Rattle.std.proofs.Common.{◌∙◌, ◌++◌, List, sym, ap, subst}
use Rattle.swreq_rule.specs.declared.rules.Rule.{Rule}
use Rattle.swreq_rule.specs.Search.{NoneLonger}
use Rattle.swreq_complete.specs.Index.{rules_below}
use Rattle.swreq_complete.proofs.Layers.{longest_of_both, longer_after}
use Rattle.swreq_complete.proofs.indexed.Indexed.longest.Goals as goal

pub returns-in-None : goal.returns-in-None
returns-in-None c =
    let own = c.self.inside.own in
    subst (λ (rules : List Rule). NoneLonger rules c.longest-own.result)
    (sym (ap (λ b. rules_below b ++ own.rules) c.in-None.is) ∙ c.self.view_is)
    (longer_after own.before c.index.result.now own.rules c.index.ensures c.longest-own.result c.longest-own.ensures)

pub returns-in-Some : goal.returns-in-Some
returns-in-Some c =
    let own = c.self.inside.own in
    let below = c.in-Some.below.now in
    subst (λ (rules : List Rule). NoneLonger rules c.max.result) (sym (ap (λ b. rules_below b ++ own.rules) c.in-Some.is) ∙ c.self.view_is)
    (subst (NoneLonger (below.rules ++ own.rules)) (sym c.max.ensures)
    (longest_of_both below.rules own.rules c.longest.result c.longest-own.result
    (longer_after below.before c.index-in-Some.result.now below.rules c.index-in-Some.ensures c.longest.result c.longest.ensures)
    (longer_after own.before c.index.result.now own.rules c.index.ensures c.longest-own.result c.longest-own.ensures)))
