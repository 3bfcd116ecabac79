use Rattle.std.proofs.Common.{◌∙◌, ◌<◌, List, get_or, subst, arith}
use Rattle.std.proofs.lemmas.List.{get_or_default, take_all}
use Rattle.std.proofs.lemmas.List.Elements.{Contains-get_or}
use Rattle.swreq_lexicon.specs.declared.pair.ProtocolName.{ProtocolName}
use Rattle.swreq_lexicon.specs.Symbols.{has_member, AreRows}
use Rattle.swreq_lexicon.specs.Views.{inherits_by}
use Rattle.swreq_lexicon.proofs.Rows.{rows_more}
use Rattle.swreq_lexicon.proofs.members.rows.Goals as goal

abbrev first : ProtocolName
first = record { proto = record { rank = 0 }; name = record { rank = 0 } }

pub add-requires : goal.add-requires
add-requires c =
    let d = get_or c.args.pairs.now c.loop-d.d-index first in
    let named : d.name.rank < c.args.names =
    c.requires.names d (Contains-get_or c.args.pairs.now c.loop-d.d-index first c.loop-d-test.true) in
    let size = c.loop-d.invariant.size in
    omega (arith, named, size)

pub loop-d-preserved : goal.loop-d-preserved
loop-d-preserved c =
    let inherits = inherits_by c.args.protocols.now.places c.args.protocols.now.resolved.inherits in
    let pairs = c.args.pairs.now in
    let i = c.loop-d.d-index in
    let d = get_or pairs i first in
    record {
      size = c.in_ok-add.ensures.len ∙ c.loop-d.invariant.size;
      said =
          rows_more inherits c.args.ordered.now pairs i d c.loop-d.rows.items c.add.new.rows.items c.in_ok-places.places c.loop-d-test.true
          (get_or_default pairs i first d c.loop-d-test.true) c.in_ok-places.ensures c.in_ok-add.ensures.rows c.loop-d.invariant.said;
    }

pub returns : goal.returns
returns c =
    let inherits = inherits_by c.args.protocols.now.places c.args.protocols.now.resolved.inherits in
    subst (λ (xs : List ProtocolName). AreRows c.args.ordered.now (has_member inherits xs) c.loop-d.rows.items)
    (take_all c.loop-d.d-index c.args.pairs.now c.loop-d-test.false) c.loop-d.invariant.said
