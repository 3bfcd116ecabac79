use Rattle.std.proofs.Common.{unwrap_or, sym}
use Rattle.std.proofs.lemmas.Option.{slice_get_within, get_or_from_slice_get}
use Rattle.swreq_names.specs.Spaces.{place}
use Rattle.swreq_names.proofs.Pieces.{mapped_more}
use Rattle.swreq_lexicon.proofs.protocols.places.Goals as goal

pub loop-rank-preserved : goal.loop-rank-preserved
loop-rank-preserved c =
    let ranks = c.args.ranks.now in
    let name = c.name.result.now in
    mapped_more (λ n. unwrap_or (place c.args.resolved.now.declared.protocols n) 0) ranks c.loop-rank.rank name c.first_place.result
    c.loop-rank.places.items
    c.push.new.self.items (slice_get_within ranks c.loop-rank.rank name c.name.ensures)
    (sym (get_or_from_slice_get ranks c.loop-rank.rank name name c.name.ensures))
    c.in_ok-push.ensures.items c.first_place.ensures c.loop-rank.invariant
