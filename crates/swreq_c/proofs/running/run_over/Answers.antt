use Rattle.std.proofs.Common.{ap, subst, sym, List, Some, map, string_bytes}
use Rattle.swreq_print.specs.Names.{Text}
use Rattle.swreq_c.specs.Calls.{AreWords, HasRun}
use Rattle.swreq_c.proofs.Runs.{in_memory, same_words}
use Rattle.swreq_c.proofs.running.run_over.Goals as goal

pub returns : goal.returns
returns c = λ said are.
    let words : List Text = map string_bytes c.deref.result.now in
    let text = c.args.text.now in
    let status = c.run-status.result in
    let sink = c.run-status.new.out in
    let read = sym (ap (map string_bytes) c.deref.ensures.value) in
    let same = same_words c.args.words.now words said (subst (AreWords c.args.words.now) read c.in_ok-words.ensures) are in
    subst (λ ws. HasRun ws text status sink.bytes.items) same
    (in_memory words text (Some c.run-status.new.src.left.now) _ sink.bytes.items _ sink.faults status c.nothing-sink.ensures.bytes
    c.nothing-sink.ensures.faults c.run-status.ensures.run
    c.if-status-eq-WRITE_FAULT.false)
