use Rattle.swreq_lowering.specs.Walk.{in_member}
use Rattle.swreq_lowering.specs.Words.{words_by}
use Rattle.swreq_lowering.proofs.Pieces.{adds_more}
use Rattle.swreq_lowering.proofs.protocols.add_members.Goals as goal

pub loop-m-preserved : goal.loop-m-preserved
loop-m-preserved c =
    adds_more (in_member (words_by c.args.words.now)) c.args.members.now c.loop-m.m-index c.m-item.result c.args.table.now
    c.loop-m.table c.add_member.new.table
    c.args.into.now.items c.loop-m.into.items c.add_member.new.into.items c.loop-m-test.true c.m-item.is c.loop-m.invariant
    c.in_ok-add_member.ensures.adds
