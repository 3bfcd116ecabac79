use Rattle.std.proofs.Common.{sym, ◌∙◌}
use Rattle.swreq_lex.proofs.MarkLemmas.{first-text, found}
use Rattle.swreq_lex.proofs.marks.first_of.Goals as goal

pub returns-in_err-n-clause-chars : goal.returns-in_err-n-clause-chars
returns-in_err-n-clause-chars c = rw c.from_residual.ensures
    (sym (first-text c.args.marks.now c.args.text.now c.requires c.utf8.text) ∙ (sym c.place_of.ensures ∙ c.in_err-n.was))

pub range_from-requires : goal.range_from-requires
range_from-requires c =
    λ p. (found c.args.marks.now c.args.text.now c.in_ok-n.n _ c.requires c.utf8.text (sym c.place_of.ensures ∙ c.in_ok-n.was)).0

pub returns-clause-chars : goal.returns-clause-chars
returns-clause-chars c =
    let f = found c.args.marks.now c.args.text.now c.in_ok-n.n _ c.requires c.utf8.text (sym c.place_of.ensures ∙ c.in_ok-n.was) in
    (f.2, rw c.range_from.ensures.value f.1)
