use Rattle.std.proofs.Common.{◌≡◌, ◌∙◌, sym, ap, ℕ, List, [], true, eqb, length}
use Rattle.std.proofs.lemmas.Bool.{false≢true}
use Rattle.swreq_text.proofs.Lined.{lines-first}
use Rattle.swreq_text.proofs.line.first_line.Goals as goal

pub returns-else-is_empty-clause-lines : goal.returns-else-is_empty-clause-lines
returns-else-is_empty-clause-lines c =
    let text = c.args.text.now in
    let some = λ (e : text ≡ []).
    let empty : eqb (length text) 0 ≡ true = ap (λ (z : List ℕ). eqb (length z) 0) e in
    false≢true (sym c.if-is_empty.false ∙ c.is_empty.ensures ∙ empty) in
    lines-first text c.cut.result.line.now c.cut.result.rest.now (some, c.cut.ensures)
