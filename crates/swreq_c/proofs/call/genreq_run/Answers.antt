use Rattle.std.proofs.Common.{◌∙◌, ap, length, subst, sym}
use Rattle.swreq_print.specs.Refusals.{refusal_line}
use Rattle.swreq_print.specs.declared.refusal.RefusalKind.TheVariants as refusals
use Rattle.swreq_c.specs.Calls.{HasRun, put_into}
use Rattle.swreq_c.proofs.Runs.{no_memory}
use Rattle.swreq_c.proofs.call.genreq_run.Goals as goal

pub returns-in-Ok : goal.returns-in-Ok
returns-in-Ok c =
    let printed = c.in-Ok.ran.bytes.items in
    let answer = c.hand_out.ensures in
    record {
      printed = printed;
      ran = λ said are. subst (λ status. HasRun said c.args.text.now status printed) (sym answer.status) (c.in-Ok.ensures said are);
      counted = answer.count ∙ ap length c.deref.ensures.value;
      handed = answer.out ∙ ap (put_into c.args.out.now) c.deref.ensures.value;
    }

pub returns-in-Err : goal.returns-in-Err
returns-in-Err c =
    let answer = c.hand_out-in-Err.ensures in
    let line = refusal_line refusals.OutOfMemory in
    record {
      printed = line;
      ran = λ said are. subst (λ status. HasRun said c.args.text.now status line) (sym answer.status) (no_memory said c.args.text.now);
      counted = answer.count;
      handed = answer.out;
    }
