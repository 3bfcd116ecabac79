use Rattle.std.proofs.Common.{◌∙◌, ap, subst, sym, true}
use Rattle.std.proofs.lemmas.Result.{IfOk-weaker}
use Rattle.swreq_check.specs.Contents.{backing_of, makes}
use Rattle.swreq_check.specs.Lines.{AreLinesIn}
use Rattle.swreq_check.specs.QueryLines.{IsLineOf}
use Rattle.swreq_reply.specs.Outputs.{IsOutput}
use Rattle.swreq_valid.specs.swreq_symbols.Texts.{world_of}
use Rattle.swreq_check.specs.declared.content.Content.{Content}
use Rattle.swreq_check.specs.declared.content.Content.TheVariants.{Answers}
use Rattle.swreq_check.specs.declared.content.Shown.{Shown}
use Rattle.swreq_reply.proofs.printing.shown_answers.Goals as goal

pub all_answers-requires : goal.all_answers-requires
all_answers-requires c = ap makes c.requires

pub counts-requires : goal.counts-requires
counts-requires c = c.requires ∙ ap Answers c.in-Counts.is

pub returns-in-Each : goal.returns-in-Each
returns-in-Each c =
    let m = c.args.m.now in
    IfOk-weaker c.all_answers.result _ _
    (λ v lines parts. subst (λ (s : Shown). IsOutput (world_of m.text) true (Answers s) parts v.items) (sym c.in-Each.is)
    (subst (λ (k : Content). AreLinesIn (IsLineOf (world_of m.text) true (backing_of k)) (world_of m.text).queries v.items)
    (c.requires ∙ ap Answers c.in-Each.is) lines)) c.all_answers.ensures

pub returns-in-Counts : goal.returns-in-Counts
returns-in-Counts c =
    IfOk-weaker c.counts.result _ _
    (λ v counted parts. subst (λ (s : Shown). IsOutput (world_of c.args.m.now.text) true (Answers s) parts v.items)
    (sym c.in-Counts.is) counted)
    c.counts.ensures
