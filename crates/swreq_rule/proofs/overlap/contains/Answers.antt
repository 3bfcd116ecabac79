use Rattle.std.proofs.Common.{sym, ◌∙◌, arith}
use Rattle.swreq_word.proofs.Cuts.{whole_rest}
use Rattle.swreq_rule.proofs.Overlapping.{containing, containing_rest, containment_within}
use Rattle.swreq_rule.proofs.overlap.contains.Goals as goal

pub returns-then-l-at : goal.returns-then-l-at
returns-then-l-at c = ((λ h. cc), (λ o. let w = containment_within c.args.l.now c.args.m.now c.args.at o in absurd (omega (arith, w))))

pub returns : goal.returns
returns c =
    let l = c.args.l.now in let m = c.args.m.now in let at = c.args.at in
    let w = whole_rest l at in (
      (λ h. let r = c.begins.ensures.0 h in containing l m r.0 at (omega arith) (sym w ∙ r.1)),
      (λ o. c.begins.ensures.1 (o.after, w ∙ containing_rest l m at o)),
    )
