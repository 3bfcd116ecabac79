use Rattle.std.proofs.Common.{◌∙◌, ap, subst, sym, true}
use Rattle.std.proofs.lemmas.Result.{IfOk-weaker}
use Rattle.swreq_reply.specs.Outputs.{IsOutput}
use Rattle.swreq_valid.specs.swreq_symbols.Texts.{world_of}
use Rattle.swreq_reply.specs.Pieces.{MadeView}
use Rattle.swreq_check.specs.declared.content.Content.{Content}
use Rattle.swreq_reply.proofs.printing.output.Goals as goal

pub returns-in-Answers : goal.returns-in-Answers
returns-in-Answers c =
    IfOk-weaker c.shown_answers.result _ _
    (λ v h parts. subst (λ (k : Content). IsOutput (world_of c.args.m.now.text) true k parts v.items)
    (sym c.in-Answers.is ∙ ap (λ (z : MadeView). z.content) c.m.view_is) (h parts))
    c.shown_answers.ensures

pub returns-in-Signatures : goal.returns-in-Signatures
returns-in-Signatures c =
    IfOk-weaker c.all_signatures.result _ _
    (λ v h parts. subst (λ (k : Content). IsOutput (world_of c.args.m.now.text) true k parts v.items)
    (sym c.in-Signatures.is ∙ ap (λ (z : MadeView). z.content) c.m.view_is) h)
    c.all_signatures.ensures

pub returns-in-Systems : goal.returns-in-Systems
returns-in-Systems c =
    IfOk-weaker c.all_systems.result _ _
    (λ v h parts. subst (λ (k : Content). IsOutput (world_of c.args.m.now.text) true k parts v.items)
    (sym c.in-Systems.is ∙ ap (λ (z : MadeView). z.content) c.m.view_is) h)
    c.all_systems.ensures
