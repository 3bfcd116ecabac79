use Rattle.std.proofs.Common.{◌≡◌, sym, ◌∙◌, subst}
use Rattle.std.proofs.lemmas.Option.{same_Some}
use Rattle.swreq_rule.specs.swreq_word.Relations.{IsIrreducible}
use Rattle.swreq_rule.specs.declared.rules.Rule.{Rule}
use Rattle.swreq_rule.specs.Steps.{Step}
use Rattle.swreq_rule.specs.swreq_word.Least.{EachFactor}
use Rattle.swreq_complete.proofs.reduced.reduced_at.Goals as goal

pub returns-then-not-is_minimal : goal.returns-then-not-is_minimal
returns-then-not-is_minimal c rule e h =
    let rules = c.args.rules.now in
    let same : rule ≡ c.rule-rule.result.now = same_Some rule c.rule-rule.result.now (sym e ∙ c.rule-rule.ensures) in
    let factors = subst (λ (z : Rule). EachFactor z.left (IsIrreducible (Step rules))) same h in
    let t = c.is_minimal.ensures.1 (subst (λ x. EachFactor x (IsIrreducible (Step rules))) (sym c.symbols.ensures) factors) in
    let f = c.if-not-is_minimal.true in
    cc

pub returns : goal.returns
returns c =
    let rules = c.args.rules.now in
    let factors =
    subst (λ x. EachFactor x (IsIrreducible (Step rules))) c.symbols.ensures (c.is_minimal.ensures.0 c.if-not-is_minimal.false) in (
      c.rule-rule.result.now,
      c.rule-rule.ensures,
      sym c.in_ok-new.ensures.left,
      sym c.in_ok-new.ensures.birth,
      subst (λ x. EachFactor x (IsIrreducible (Step rules))) (sym c.in_ok-new.ensures.left) factors,
      c.in_ok-new.ensures.right,
    )
