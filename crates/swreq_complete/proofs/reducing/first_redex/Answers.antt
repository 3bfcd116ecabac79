use Rattle.std.proofs.Common.{refl, arith}
use Rattle.swreq_complete.proofs.Indexing.{redex_there, none_later, none_in_word}
use Rattle.swreq_complete.proofs.reducing.first_redex.Goals as goal

pub returns-in-Ok : goal.returns-in-Ok
returns-in-Ok c = redex_there c.args.rules.now c.args.word.now c.loop-at.at c.loop-at.invariant c.in-Ok.number (omega arith) c.in-Ok.ensures

pub loop-at-preserved : goal.loop-at-preserved
loop-at-preserved c = none_later c.args.rules.now c.args.word.now c.loop-at.at c.loop-at.invariant (c.in-Err.ensures c.args.word.now refl)

pub returns : goal.returns
returns c = none_in_word c.args.rules.now c.args.word.now c.loop-at.at c.loop-at.invariant (omega arith)
