use Rattle.std.proofs.Common.{sym, ap, ◌∙◌}
use Rattle.swreq_param.specs.declared.ids.Step.TheVariants.{Bound}
use Rattle.swreq_lexicon.specs.Lexicons.{assoc_by}
use Rattle.swreq_lowering.specs.Types.{step_of}
use Rattle.swreq_lowering.specs.Words.{words_by}
use Rattle.swreq_lowering.proofs.lookups.step_of.Goals as goal

pub returns-in-Bound : goal.returns-in-Bound
returns-in-Bound c =
    ap Bound (c.assoc_id.ensures ∙ (λ i. assoc_by c.args.words.now.lexicon.now.associated (c.proto_of-p.ensures i) (c.name_of-a.ensures i)))
    ∙ ap (step_of (words_by c.args.words.now)) (sym c.in-Bound.is)
