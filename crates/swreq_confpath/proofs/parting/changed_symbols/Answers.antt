use Rattle.std.proofs.Common.{◌+◌, sym, subst, arith}
use Rattle.swreq_confpath.specs.Parting.{FirstSpareOthers}
use Rattle.swreq_confpath.proofs.Spared.{all_spared, spared_more}
use Rattle.swreq_confpath.proofs.parting.changed_symbols.Goals as goal

pub loop-k-init : goal.loop-k-init
loop-k-init c x none k rule less = absurd (omega arith)

pub loop-k-preserved : goal.loop-k-preserved
loop-k-preserved c =
    let rules = c.args.rules.now in
    let k = c.loop-k.k in
    subst (FirstSpareOthers rules (k + 1)) (sym c.in_ok-extend_from_slice.ensures.items)
    (spared_more rules k c.rule.result.now c.loop-k.changed.items c.changed_by.result.now c.loop-k.invariant
    c.rule.ensures c.changed_by.ensures)

pub returns : goal.returns
returns c = record {
  others = all_spared c.args.rules.now c.loop-k.k c.loop-k.changed.items
      (omega (arith, c.count-count.ensures.count, c.loop-k-test.false)) c.loop-k.invariant;
  complete = c.count-count.ensures.complete;
}
