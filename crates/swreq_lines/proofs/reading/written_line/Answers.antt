use Rattle.std.proofs.Common.{◌++◌, codes}
use Rattle.swreq_lines.specs.LineTexts.{premises_text, rule_text, statement_text}
use Rattle.swreq_lines.proofs.LineWords.{behind_number, premises_end}
use Rattle.swreq_lines.proofs.reading.written_line.Goals as goal

pub returns : goal.returns
returns c n l short readable e =
    let x = c.args.reader.now.names.now in
    let tail = rule_text x l.rule ++ premises_text l.premises in
    let after =
    behind_number n c.args.text.now c.next_word-first.result.piece.now c.next_word-first.result.rest.now c.next_word-second.result.piece.now
    c.next_word-second.result.rest.now c.next_word-number.result.piece.now c.next_word-number.result.rest.now
    (statement_text x l.statement ++ (codes " by " ++ tail)) short c.next_word-first.ensures.piece c.next_word-second.ensures.piece
    c.next_word-number.ensures.piece e in
    let stated = c.in_ok-stated.ensures l.statement tail readable.statement after in
    let rule = c.read_rule-read.ensures l.rule (premises_text l.premises) readable.rule (premises_end l.premises) stated.1 in
    let premises = c.in_ok-premises.ensures l.premises readable.premises rule.1 in
    λ i. record { rule = rule.0 i; premises = premises i; statement = stated.0 i }
