use Rattle.std.proofs.Common.{◌∙◌, sym, ap, subst, ◌++◌, take}
use Rattle.std.proofs.lemmas.Bool.{false≢true}
use Rattle.std.proofs.lemmas.List.{take_rest}
use Rattle.swreq_text.specs.Lines.{lines, IsFirstLine}
use Rattle.swreq_text.proofs.LineEnds.{lines-split}
use Rattle.swreq_verify.proofs.BodyCut.{body_more}
use Rattle.swreq_verify.proofs.sections.cut_body.Goals as goal

pub returns-then-is_heading-clause-lines : goal.returns-then-is_heading-clause-lines
returns-then-is_heading-clause-lines c =
    let text = c.args.text.now in
    let at = c.loop-first.at in
    lines-split text at c.loop-first.invariant.ends ∙ ap (λ z. lines (take at text) ++ lines z) (sym (take_rest text at))

pub loop-first-preserved : goal.loop-first-preserved
loop-first-preserved c =
    let line = c.in-Some.first.line.now in
    let rest = c.in-Some.first.rest.now in
    let first = subst (λ z. IsFirstLine z line rest) (take_rest c.args.text.now c.loop-first.at) c.in-Some.ensures.first in
    body_more c.args.text.now c.loop-first.at line rest c.loop-first.invariant first
    (λ heads. false≢true (sym c.if-is_heading.false ∙ c.is_heading.ensures.1 heads))
