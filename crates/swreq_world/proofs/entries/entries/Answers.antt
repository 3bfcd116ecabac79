use Rattle.swreq_lowering.specs.Words.{words_by}
use Rattle.swreq_world.specs.Entries.{IsEntryOf, entry_meant}
use Rattle.swreq_world.specs.Own.{own_signature}
use Rattle.swreq_world.proofs.Filled.{fills_more, entry_of_stay, entry_stays}
use Rattle.swreq_world.proofs.entries.entries.Goals as goal

pub loop-g-preserved : goal.loop-g-preserved
loop-g-preserved c =
    fills_more IsEntryOf entry_meant entry_of_stay entry_stays
    (own_signature (words_by c.args.words.now) c.args.order.now) c.signatures-g-items.result.now c.loop-g.g-index _
    c.args.table.now c.loop-g.table c.entry.new.table c.loop-g.made.items c.push.new.self.items c.in_ok-entry.entry
    c.loop-g-test.true c.loop-g.invariant
    c.in_ok-entry.ensures.extends c.in_ok-entry.ensures.of c.in_ok-entry.ensures.means c.in_ok-push.ensures.items
