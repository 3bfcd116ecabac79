use Rattle.std.proofs.Common.{◌∙◌, ◌++◌, List, length, drop, sym, ap, subst}
use Rattle.std.specs.Prelude.{MatchResult}
use Rattle.swreq_rule.specs.declared.rules.Rule.{Rule}
use Rattle.swreq_rule.specs.Reduction.{Chosen}
use Rattle.swreq_complete.specs.Index.{rules_below}
use Rattle.swreq_complete.specs.Reading.{TellNone}
use Rattle.swreq_complete.proofs.Layers.{alone_found, first_index}
use Rattle.swreq_complete.proofs.indexed.Indexed.find_at.Goals as goal

pub returns-in-None : goal.returns-in-None
returns-in-None c =
    let own = c.self.inside.own in
    let w = c.args.word.now in
    subst (λ (rules : List Rule). MatchResult c.find_at.result (Chosen rules (drop c.args.at w)) (TellNone rules w c.args.at))
    (sym (ap (λ b. rules_below b ++ own.rules) c.in-None.is) ∙ c.self.view_is)
    (alone_found c.index.result.now own.rules
    (first_index own.before c.index.result.now own.rules
    (c.self.invariant.1 ∙ ap (λ b. length (rules_below b)) c.in-None.is) c.index.ensures)
    w c.args.at c.find_at.result c.find_at.ensures)
