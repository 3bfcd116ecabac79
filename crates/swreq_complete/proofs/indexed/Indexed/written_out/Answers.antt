use Rattle.std.proofs.Common.{◌∙◌, ◌++◌, ◌∷◌, [], take, sym, ap, add-one}
use Rattle.swreq_rule.proofs.swreq_lemmas.Elements.{take_one}
use Rattle.swreq_complete.proofs.indexed.Indexed.written_out.Goals as goal

pub loop-k-preserved : goal.loop-k-preserved
loop-k-preserved c =
    let rules = c.args.self.now in
    let k = c.loop-k.k in
    c.in_ok-push.ensures.items ∙ (λ i. c.loop-k.invariant i ++ c.in_ok-clone.ensures.cases i ∷ [])
    ∙ sym (take_one rules k c.rule.result.now c.rule.ensures) ∙ ap (λ n. take n rules) (sym (add-one k))
