use Rattle.swreq_lines.proofs.Cuts.{none_left, some_left}
use Rattle.swreq_lines.proofs.TypeWords.{bound_step, name_step}
use Rattle.swreq_lines.proofs.types.read_step.Goals as goal

pub returns-then-is_empty : goal.returns-then-is_empty
returns-then-is_empty c s h e =
    bound_step c.args.reader.now.tells_apart s c.args.text.now c.next_piece-bracket.result.piece.now c.next_piece-bracket.result.rest.now h
    c.next_piece-bracket.ensures.piece c.next_piece-proto.result.piece.now c.next_piece-proto.result.rest.now
    c.protocol_named-p.result c.name_named-a.result c.associated.result c.next_piece-proto.ensures.piece
    c.protocol_named-p.ensures c.name_named-a.ensures c.associated.ensures
    (none_left c.next_piece-bracket.result.piece.now c.if-is_empty.ensures) e

pub returns : goal.returns
returns c s h e =
    name_step c.args.reader.now.tells_apart s c.args.text.now c.next_piece-bracket.result.piece.now c.next_piece-bracket.result.rest.now h
    c.next_piece-bracket.ensures.piece c.name_named.result c.name_named.ensures
    (some_left c.next_piece-bracket.result.piece.now c.if-is_empty.ensures) e
