use Rattle.std.proofs.Common.{◌∙◌, ◌+◌, ap, length}
use Rattle.swreq_rule.proofs.swreq_word.Cuts.{whole_rest}
use Rattle.swreq_path.proofs.Reducing.{step_is}
use Rattle.swreq_path.proofs.reduction.step_of.Goals as goal

pub returns : goal.returns
returns c rules is =
    let w = c.args.w.now in
    let at = c.args.redex.at in
    step_is rules w c.new-before.result c.new-after.result at c.args.redex.number
    (length c.symbols.result.now) c.args.rule.now c.requires.there is
    (ap length c.symbols.ensures)
    (c.new-before.ensures ∙ c.in_ok-from_slice.ensures.items)
    (c.new-after.ensures ∙ c.in_ok-from_slice-2.ensures.items ∙ whole_rest w (at + length c.symbols.result.now))
