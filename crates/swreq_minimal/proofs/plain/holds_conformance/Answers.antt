use Rattle.std.proofs.Common.{Contains, get_or, subst}
use Rattle.std.proofs.lemmas.List.Elements.{Contains-get_or}
use Rattle.swreq_minimal.specs.TextLists.{said_by}
use Rattle.swreq_minimal.proofs.OfTextLists.{known_in}
use Rattle.swreq_minimal.proofs.Inserting.{any, in_listed}
use Rattle.swreq_minimal.proofs.plain.holds_conformance.Goals as goal

pub says_conformance-requires-clause-r : goal.says_conformance-requires-clause-r
says_conformance-requires-clause-r c =
    let list = c.args.among.now.list.now in
    known_in c.args.among.now (get_or list c.loop-k.k any) (Contains-get_or list c.loop-k.k any c.loop-k-test.true)

pub returns-then-says_conformance : goal.returns-then-says_conformance
returns-then-says_conformance c h =
    let l = c.args.among.now in
    let r = get_or l.list.now c.loop-k.k any in
    let found = c.says_conformance.ensures c.if-says_conformance.true in (
      found.0,
      subst (Contains (said_by l)) found.1
          (in_listed l.text.table.now r l.list.now (Contains-get_or l.list.now c.loop-k.k any c.loop-k-test.true)),
      found.2,
    )
