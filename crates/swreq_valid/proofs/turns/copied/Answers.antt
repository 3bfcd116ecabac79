use Rattle.std.proofs.Common.{◌≡◌, ◌∙◌, ◌++◌, ◌∷◌, ◌+◌, [], ap, ap₂, arith, length, refl, suc, sym, take}
use Rattle.std.proofs.lemmas.List.{take_all}
use Rattle.std.proofs.lemmas.Option.{slice_get_read}
use Rattle.swreq_complete.specs.swreq_rule.declared.rules.Rule.{Rule}
use Rattle.swreq_complete.proofs.swreq_lemmas.Elements.{take_one}
use Rattle.swreq_valid.proofs.turns.copied.Goals as goal

pub loop-rule-init : goal.loop-rule-init
loop-rule-init c = c.in_ok-copies.ensures.items

pub loop-rule-preserved : goal.loop-rule-preserved
loop-rule-preserved c =
    let k = c.loop-rule.rule-index in
    let trace = c.args.trace.now in
    let there = slice_get_read trace (length trace) k c.rule-item.result refl c.loop-rule-test.true c.rule-item.is in
    let one : suc k ≡ k + 1 = omega arith in
    c.in_ok-push.ensures.items ∙ ap₂ (λ xs (x : Rule). xs ++ x ∷ []) c.loop-rule.invariant c.in_ok-clone.ensures.cases
    ∙ sym (take_one trace k c.rule-item.result there) ∙ ap (λ n. take n trace) one

pub returns : goal.returns
returns c = c.new.ensures ∙ c.loop-rule.invariant ∙ take_all c.loop-rule.rule-index c.args.trace.now c.loop-rule-test.false
