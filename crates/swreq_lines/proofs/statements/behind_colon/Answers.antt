use Rattle.swreq_lines.proofs.StatementWords.{before_by, property_without}
use Rattle.swreq_lines.specs.Written.{property_text}
use Rattle.swreq_lines.proofs.statements.behind_colon.Goals as goal

pub returns : goal.returns
returns c p rest h e =
    let x = c.args.reader.now.names.now in
    let k = before_by (property_text x p) c.args.text.now c.next_word-word.result.piece.now c.next_word-word.result.rest.now
    c.next_word-by.result.piece.now c.next_word-by.result.rest.now rest (property_without c.args.reader.now.tells_apart p h)
    c.next_word-word.ensures.piece c.next_word-by.ensures.piece e in
    (c.property.ensures p h k.0, k.1)
