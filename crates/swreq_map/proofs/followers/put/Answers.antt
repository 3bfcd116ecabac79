use Rattle.std.proofs.Common.{refl, length}
use Rattle.std.proofs.lemmas.Option.{slice_get_read}
use Rattle.std.proofs.lemmas.Result.{on_ok_weaker}
use Rattle.swreq_map.proofs.Listing.{keeps_changed, listed_changed}
use Rattle.swreq_map.proofs.followers.put.Goals as goal

pub returns-clause-added : goal.returns-clause-added
returns-clause-added c =
    on_ok_weaker c.push.result
    (listed_changed c.make_room.new.lists.items _ c.args.place c.push.new.list c.args.x c.in_ok-make_room.ensures.room refl)
    c.push.ensures.added

pub returns-clause-kept : goal.returns-clause-kept
returns-clause-kept c place s h =
    let lists = c.make_room.new.lists.items in
    keeps_changed lists _ c.args.place c.index_mut.result.now c.push.new.list
    (slice_get_read lists (length lists) c.args.place c.index_mut.result.now refl c.in_ok-make_room.ensures.room c.index_mut.ensures.value)
    refl
    c.push.ensures.kept place s (c.make_room.ensures.kept place s h)
