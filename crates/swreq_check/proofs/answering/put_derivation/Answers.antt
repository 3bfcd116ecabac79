use Rattle.std.proofs.Common.{◌∙◌, refl, ap, subst, map}
use Rattle.std.proofs.lemmas.Result.{on_ok_weaker}
use Rattle.swreq_machine.specs.swreq_derive.Derivation.TermStatement.{Requires}
use Rattle.swreq_machine.specs.swreq_derive.Facts.{requirement_of, statement_of}
use Rattle.swreq_machine.specs.swreq_derive.Lines.{line_of}
use Rattle.swreq_lines.specs.LineTexts.{lines_text}
use Rattle.swreq_machine.proofs.swreq_lowering.Growing.{requirement_stays}
use Rattle.swreq_machine.proofs.swreq_symbols.Growing.{world_stays}
use Rattle.swreq_verify.specs.Judgements.{IsDerivationFrom}
use Rattle.swreq_verify.proofs.Judged.{derivation_from, ends}
use Rattle.swreq_check.proofs.answering.put_derivation.Goals as goal

pub explain_by-requires-clause-yes : goal.explain_by-requires-clause-yes
explain_by-requires-clause-yes c = (c.args.own.now.f, c.requires.history, c.requires.yes)

pub lines_text-requires : goal.lines_text-requires
lines_text-requires c = λ l h. rw c.lexicon.ensures (c.in_ok-lines.ensures.ids l (rw c.deref.ensures.value at h))

pub returns-clause-backing : goal.returns-clause-backing
returns-clause-backing c =
    let old = c.args.table.now in
    let new = c.explain_by.new.table in
    let w = c.args.own.now.s.now.world.now in
    let f = c.args.own.now.f in
    let r = c.args.r in
    let ls = c.in_ok-lines.lines.items in
    let (front, end, split, states) = c.in_ok-lines.ensures.last in
    on_ok_weaker c.lines_text.result
    (λ e. (
      lines_text w.lexicon (map (line_of new) ls),
      (
        map (line_of new) ls,
        subst (λ v. IsDerivationFrom v f (map (line_of new) ls))
            (world_stays old new c.in_ok-lines.ensures.extends w c.requires.ready.text.table)
            (derivation_from w f new ls (c.in_ok-lines.ensures.derived f c.requires.history)),
        ends new ls front end split (Requires (requirement_of old r))
            (ap (statement_of new) states ∙ ap Requires (requirement_stays old new r c.in_ok-lines.ensures.extends c.requires.yes.ids.0)),
        refl,
      ),
      cc (e, c.lexicon.ensures, c.deref.ensures.value),
    ))
    c.lines_text.ensures.ok
