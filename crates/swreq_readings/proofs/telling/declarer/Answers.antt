use Rattle.swreq_derive.specs.swreq_param.Tables.{term_at}
use Rattle.swreq_readings.proofs.ReadingLemmas.{given_named}
use Rattle.swreq_readings.proofs.telling.declarer.Goals as goal

pub unreachable-requires : goal.unreachable-requires
unreachable-requires c =
    let s = c.args.derivation.now in
    let m = given_named c.args.alphabet.now s (term_at s.table c.args.subject) c.args.name c.requires.name in
    c.in-None.ensures m.0 m.1
