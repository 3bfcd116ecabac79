use Rattle.std.proofs.Common.{◌∙◌, ◌<◌, get_or, arith}
use Rattle.std.proofs.lemmas.List.{length-set}
use Rattle.std.proofs.lemmas.List.Elements.{Contains-get_or}
use Rattle.std.proofs.lemmas.Option.{slice_get-get_or}
use Rattle.swreq_derive.specs.swreq_param.declared.ids.ProtoId.{ProtoId}
use Rattle.swreq_lexicon.proofs.Rows.{places_more, all_places}
use Rattle.swreq_lexicon.proofs.ordered.places_of.Goals as goal

abbrev first : ProtoId
first = record { rank = 0 }

pub index_mut-requires : goal.index_mut-requires
index_mut-requires c =
    let q = get_or c.args.protos.now c.loop-k.k first in
    let within : q.rank < c.args.bound = c.requires.within q (Contains-get_or c.args.protos.now c.loop-k.k first c.loop-k-test.true) in
    let size = c.loop-k.invariant.size in
    omega (arith, within, size)

pub loop-k-preserved : goal.loop-k-preserved
loop-k-preserved c =
    let protos = c.args.protos.now in
    let places = c.loop-k.places.items in
    let k = c.loop-k.k in
    let q = get_or protos k first in
    let within : q.rank < c.args.bound = c.requires.within q (Contains-get_or protos k first c.loop-k-test.true) in
    let size = c.loop-k.invariant.size in
    record {
      size = length-set places q.rank k ∙ size;
      placed = places_more protos c.requires.once places k q (slice_get-get_or protos k first c.loop-k-test.true)
          (omega (arith, within, size)) c.loop-k.invariant.placed;
    }

pub returns : goal.returns
returns c = all_places c.args.protos.now c.loop-k.k c.loop-k.places.items c.loop-k-test.false c.loop-k.invariant.placed
