use Rattle.std.proofs.{Common.{get_or, subst}, lemmas.Option.{slice_get-get_or}}
use Rattle.swreq_correspondence.specs.swreq_derive.Instances.{HasNumber}
use Rattle.swreq_births.specs.Systems.{IsWritten}
use Rattle.swreq_births.proofs.members.requirement_of_member.Goals as goal

pub returns-then-is_stated-clause-written : goal.returns-then-is_stated-clause-written
returns-then-is_stated-clause-written c b fits =
    let given = c.protocols_given-given.result.now in
    let e = c.index-given-k.result in
    let w = c.in-Some.written in
    let is = c.in-Some.ensures in
    let at = slice_get-get_or given c.loop-k.k e c.loop-k-test.true in
    let written = c.protocols_given-given.ensures c.loop-k.k (get_or given c.loop-k.k e) at b fits in
    subst (HasNumber w.number (b.facts.of_protocol w.owner)) is.conforms (subst (IsWritten b) is.is written)
