use Rattle.std.proofs.Common.{Err, Ok, ap, refl}
use Rattle.swreq_text.specs.declared.whole.ReadErr.TheVariants.{Fault, Memory, TooLarge}
use Rattle.swreq_watch.proofs.Told.{grew_none}
use Rattle.swreq_top.specs.Run.HasToPrint.{no_memory, wrong_words}
use Rattle.swreq_top.proofs.Delivering.{ended, nothing_said, nothing_told, to_print}
use Rattle.swreq_top.proofs.program.carry_out.Goals as goal

pub answer-requires : goal.answer-requires
answer-requires g c = record { count = c.count_is_in_range.ensures.count _ c.in-Ok.line c.in-Ok.ensures.ok }

pub returns-in-Ok-answer-clause-end : goal.returns-in-Ok-answer-clause-end
returns-in-Ok-answer-clause-end g c =
    let said = c.in-Ok-answer.ensures in
    ended _ (to_print _ c.in-Ok.line c.in-Ok.ensures.ok (Ok c.in-Ok-answer.outcome) said.answer said.fault said.no_fault)
    (rw c.items.ensures at c.finish.ensures)

pub returns-in-Ok-answer-clause-unread : goal.returns-in-Ok-answer-clause-unread
returns-in-Ok-answer-clause-unread g c = nothing_said _ c.in-Ok.line c.in-Ok.ensures.ok c.answer.ensures.unread

pub returns-in-Err-TooLarge-clause-end : goal.returns-in-Err-TooLarge-clause-end
returns-in-Err-TooLarge-clause-end g c =
    let said = rw c.in-Err-TooLarge.field-0-is at c.in-Err-TooLarge.ensures in
    ended _ (to_print _ c.in-Ok.line c.in-Ok.ensures.ok (Err TooLarge) said.answer said.fault said.no_fault)
    c.finish-in-Err-TooLarge.ensures

pub returns-in-Err-TooLarge-clause-unread : goal.returns-in-Err-TooLarge-clause-unread
returns-in-Err-TooLarge-clause-unread g c = nothing_said _ c.in-Ok.line c.in-Ok.ensures.ok c.answer.ensures.unread

pub returns-in-Err-Fault-clause-end : goal.returns-in-Err-Fault-clause-end
returns-in-Err-Fault-clause-end g c =
    let said = rw c.in-Err-Fault.field-0-is at c.in-Err-Fault.ensures in
    ended _ (to_print _ c.in-Ok.line c.in-Ok.ensures.ok (Err Fault) said.answer said.fault said.no_fault) c.finish-in-Err-Fault.ensures

pub returns-in-Err-Fault-clause-unread : goal.returns-in-Err-Fault-clause-unread
returns-in-Err-Fault-clause-unread g c = nothing_said _ c.in-Ok.line c.in-Ok.ensures.ok c.answer.ensures.unread

pub returns-in-Err-Memory-answer-clause-end : goal.returns-in-Err-Memory-answer-clause-end
returns-in-Err-Memory-answer-clause-end g c =
    let said = rw c.in-Err-Memory-answer.field-0-is at c.in-Err-Memory-answer.ensures in
    ended _ (to_print _ c.in-Ok.line c.in-Ok.ensures.ok (Err Memory) said.answer said.fault said.no_fault)
    c.finish-in-Err-Memory-answer.ensures

pub returns-in-Err-Memory-answer-clause-unread : goal.returns-in-Err-Memory-answer-clause-unread
returns-in-Err-Memory-answer-clause-unread g c = nothing_said _ c.in-Ok.line c.in-Ok.ensures.ok c.answer.ensures.unread

pub returns-in-Err-Usage-clause-end : goal.returns-in-Err-Usage-clause-end
returns-in-Err-Usage-clause-end g c =
    let wrong = c.in-Err-Usage.ensures.usage.0 (ap Err c.in-Err-Usage.field-0-is) in
    ended _ (wrong_words wrong (grew_none (g.W.Watch.told c.args.watch.now)) refl) c.finish-in-Err-Usage.ensures

pub returns-in-Err-Memory-clause-end : goal.returns-in-Err-Memory-clause-end
returns-in-Err-Memory-clause-end g c =
    ended _ (no_memory (nothing_told _ (grew_none (g.W.Watch.told c.args.watch.now))) refl) c.finish-in-Err-Memory.ensures
