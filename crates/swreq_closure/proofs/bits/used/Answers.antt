use Rattle.std.proofs.Common.{◌<◌, length, arith}
use Rattle.std.proofs.lemmas.List.{get_or_past}
use Rattle.swreq_closure.proofs.Sets.{one_gone}
use Rattle.swreq_closure.proofs.bits.used.Goals as goal

pub loop-gone-init : goal.loop-gone-init
loop-gone-init c j h = get_or_past c.args.words.now j 0 (omega (arith, h))

pub loop-gone-preserved : goal.loop-gone-preserved
loop-gone-preserved c =
    let inside : c.loop-gone.gone < length c.args.words.now = c.loop-gone-test.true in
    one_gone c.args.words.now c.loop-gone.gone _ inside c.if-word-ne0.false c.loop-gone.invariant
