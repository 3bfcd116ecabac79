use Rattle.std.proofs.Common.{[]}
use Rattle.swreq_lines.proofs.Cuts.{none_found, one_found, piece_is, shorter}
use Rattle.swreq_lines.proofs.pieces.next_piece.Goals as goal

pub returns-in-None : goal.returns-in-None
returns-in-None c =
    let t = c.args.text.now in
    let p = none_found c.args.byte t c.in-None.ensures in
    record {
      without = p.without;
      whole = p.whole;
      shorter = shorter c.args.byte t t [] p;
      piece = λ piece tail. piece_is c.args.byte t t [] piece tail p;
    }

pub returns-in-Some : goal.returns-in-Some
returns-in-Some c =
    let t = c.args.text.now in
    let p = one_found c.args.byte t c.in-Some.at c.in-Some.ensures in
    record {
      without = p.without;
      whole = p.whole;
      shorter = shorter c.args.byte t _ _ p;
      piece = λ piece tail. piece_is c.args.byte t _ _ piece tail p;
    }
