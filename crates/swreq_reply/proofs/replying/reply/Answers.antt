use Rattle.std.proofs.Common.{◌≡◌, ◌∙◌, ap, sym}
use Rattle.swreq_words.specs.Commands.{input as reads}
use Rattle.swreq_words.specs.declared.command.Input.{Input}
use Rattle.swreq_reply.specs.Verdict.{answered_text, text_for}
use Rattle.swreq_reply.proofs.Verdicts.{replied, source_text}
use Rattle.swreq_reply.proofs.replying.reply.Goals as goal

pub returns-in_ok-generated-in-Nothing : goal.returns-in_ok-generated-in-Nothing
returns-in_ok-generated-in-Nothing g c =
    let line = c.args.line.now in
    let (verdict, part) = replied line _ _ _ c.read.result c.read.ensures.reply in
    let generated : answered_text line c.args.text.now ≡ c.deref.result.now =
    ap (λ (i : Input). text_for i line.count c.args.text.now) (sym c.input.ensures ∙ c.in-Nothing.is)
    ∙ sym c.in_ok-generated-in-Nothing.ensures ∙ sym c.deref.ensures.value in
    rw generated (record { verdict = verdict; told_part = part; refused = c.read.ensures.refused })

pub returns-in_default : goal.returns-in_default
returns-in_default g c =
    let line = c.args.line.now in
    let (verdict, part) = replied line _ _ _ c.read-in_default.result c.read-in_default.ensures.reply in
    let given : answered_text line c.args.text.now ≡ c.args.text.now =
    source_text (reads line.command) line.count c.args.text.now (λ e. c.in_default.not-Nothing (c.input.ensures ∙ e)) in
    rw given (record { verdict = verdict; told_part = part; refused = c.read-in_default.ensures.refused })
