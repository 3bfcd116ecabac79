use Rattle.swreq_lexicon.specs.Views.{inherits_by}
use Rattle.swreq_lexicon.proofs.Rows.{same_rows}
use Rattle.swreq_lexicon.proofs.members.Members.of.Goals as goal

pub rows-requires-clause-names : goal.rows-requires-clause-names
rows-requires-clause-names c d h = c.requires.names d ((c.written.ensures d).0 h)

pub returns : goal.returns
returns c =
    same_rows (inherits_by c.args.protocols.now.places c.args.protocols.now.resolved.inherits) c.args.ordered.now
    c.written.result.now c.args.associated.now
    c.in_ok-rows.rows.items c.written.ensures c.in_ok-rows.ensures
