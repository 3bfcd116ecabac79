use Rattle.std.proofs.Common.{sym, subst, arith}
use Rattle.swreq_rule.specs.Reduction.{NoneEarlier}
use Rattle.swreq_complete.proofs.Indexing.{redex_there, none_in_word}
use Rattle.swreq_complete.proofs.Places.{none_read}
use Rattle.swreq_complete.proofs.reading.next_redex.Goals as goal

pub returns-in-Ok-clause-redex : goal.returns-in-Ok-clause-redex
returns-in-Ok-clause-redex c =
    let rules = c.args.rules.now in let w = c.args.word.now in
    redex_there rules w c.loop-at.at
    (subst (NoneEarlier rules w) (sym c.loop-at.invariant.as_many) (none_read rules w c.loop-at.counts.items c.loop-at.invariant.read))
    c.in-Ok.number (omega arith) c.in-Ok.ensures

pub returns-clause-redex : goal.returns-clause-redex
returns-clause-redex c =
    let rules = c.args.rules.now in let w = c.args.word.now in
    none_in_word rules w c.loop-at.at
    (subst (NoneEarlier rules w) (sym c.loop-at.invariant.as_many) (none_read rules w c.loop-at.counts.items c.loop-at.invariant.read))
    (omega arith)
