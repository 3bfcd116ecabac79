use Rattle.std.proofs.Common.{sym}
use Rattle.swreq_word.proofs.Tables.{stands_at, lacks}
use Rattle.swreq_word.proofs.table.WordTable.find_symbols.Goals as goal

pub returns-in_err-place : goal.returns-in_err-place
returns-in_err-place c =
    rw c.from_residual.ensures (lacks c.self.inside.words.keys c.args.self.now c.self.view_is c.args.symbols.now
    (sym c.in_err-place.ensures.found))

pub returns : goal.returns
returns c =
    stands_at c.self.inside.words.keys c.args.self.now c.self.view_is c.args.symbols.now c.in_ok-place.place
    (sym c.in_ok-place.ensures.index)
