use Rattle.std.proofs.Common.{◌<◌, refl, sym, subst, length}
use Rattle.std.proofs.lemmas.Result.{on_ok_weaker}
use Rattle.swreq_rule.specs.swreq_word.Relations.{IsIrreducible}
use Rattle.swreq_rule.specs.Steps.{Step}
use Rattle.swreq_rule.specs.swreq_word.Least.{EachFactor}
use Rattle.swreq_complete.proofs.Sorting.{key_skipped, key_added}
use Rattle.swreq_rule.proofs.swreq_word.Comparing.{greater_some}
use Rattle.swreq_complete.proofs.reduced.add_key.Goals as goal

pub is_minimal-requires : goal.is_minimal-requires
is_minimal-requires c = subst (λ x. 0 < length x) (sym c.symbols.ensures)
    (greater_some c.rule-rule.result.now.right c.rule-rule.result.now.left c.rule-rule.result.now.down)

pub returns-then-not-is_minimal : goal.returns-then-not-is_minimal
returns-then-not-is_minimal c =
    let rules = c.args.rules.now in
    key_skipped rules c.args.place c.args.keys.now.items c.rule-rule.result.now c.rule-rule.ensures
    (λ h. (let t = c.is_minimal.ensures.1 (subst (λ x. EachFactor x (IsIrreducible (Step rules))) (sym c.symbols.ensures) h) in
    let f = c.if-not-is_minimal.true in cc))
    c.requires.so_far

pub returns : goal.returns
returns c =
    let rules = c.args.rules.now in
    on_ok_weaker c.push.result
    (key_added rules c.args.place c.args.keys.now.items c.push.new.keys.items c.rule-rule.result.now _ c.rule-rule.ensures
    refl (subst (λ x. EachFactor x (IsIrreducible (Step rules))) c.symbols.ensures (c.is_minimal.ensures.0 c.if-not-is_minimal.false))
    c.requires.so_far)
    c.push.ensures
