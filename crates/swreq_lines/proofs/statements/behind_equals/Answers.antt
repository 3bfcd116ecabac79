use Rattle.std.proofs.Common.{ap}
use Rattle.swreq_print.specs.swreq_derive.Derivation.TermRequirement.{Equals}
use Rattle.swreq_print.specs.swreq_derive.Derivation.TermStatement.{Requires}
use Rattle.swreq_print.specs.swreq_param.Owned.{as_term}
use Rattle.swreq_print.specs.Types.{type_text}
use Rattle.swreq_lines.proofs.StatementWords.{before_by}
use Rattle.swreq_lines.proofs.TypeWords.{type_without}
use Rattle.swreq_lines.proofs.statements.behind_equals.Goals as goal

pub returns : goal.returns
returns c u rest h e =
    let x = c.args.reader.now.names.now in
    let k = before_by (type_text x u) c.args.text.now c.next_word-word.result.piece.now c.next_word-word.result.rest.now
    c.next_word-by.result.piece.now c.next_word-by.result.rest.now rest (type_without c.args.reader.now.tells_apart u h)
    c.next_word-word.ensures.piece c.next_word-by.ensures.piece e in
    (ap (λ t. Requires (Equals (as_term c.args.t) t)) (c.in_ok-u.ensures u h k.0), k.1)
