use Rattle.swreq_lines.proofs.TypeWords.{numbers_of_param}
use Rattle.swreq_lines.proofs.types.read_param.Goals as goal

pub returns : goal.returns
returns c g h e =
    let n = numbers_of_param g c.args.text.now c.next_piece-tau.result.piece.now c.next_piece-tau.result.rest.now
    c.next_piece-depth.result.piece.now
    c.next_piece-depth.result.rest.now h c.next_piece-tau.ensures.piece c.next_piece-depth.ensures.piece e in
    let depth = c.read_number.ensures g.depth h.0 n.0 in
    let index = c.read_number-2.ensures g.index h.1 n.1 in
    λ i. record { depth = depth i; index = index i }
