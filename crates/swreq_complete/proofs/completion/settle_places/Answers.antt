use Rattle.std.proofs.Common.{◌+◌, arith, [], sym}
use Rattle.std.proofs.lemmas.List.{append-nil}
use Rattle.std.proofs.lemmas.Result.{err_from_is_err_and}
use Rattle.swreq_complete.specs.Progress.{Listed}
use Rattle.swreq_complete.proofs.Listing.{listed_begun, listed_done, pair_there, place_goes, place_stops}
use Rattle.swreq_complete.proofs.Telling.{kept_length, grown_none, goes_later, stops_later}
use Rattle.swreq_complete.proofs.completion.settle_places.Goals as goal

pub loop-n-init : goal.loop-n-init
loop-n-init g c =
    let a = c.args in let r = c.requires in
    record {
      progress = listed_begun a.task.now.base a.task.now.given.now a.rules.now a.greater a.places.now r.all_places r.new r.in_range
          a.rules.now [] (sym (append-nil a.rules.now)) r.so_far.progress;
      kept = r.so_far.kept;
      grown = grown_none a.rules.now (g.W.Watch.told a.watch.now);
    }

pub settle_place-requires-clause-pair : goal.settle_place-requires-clause-pair
settle_place-requires-clause-pair g c =
    let a = c.args in let r = c.requires in let l = c.loop-n in
    pair_there a.task.now.base a.task.now.given.now a.rules.now a.greater a.places.now r.all_places r.new r.in_range l.n
    c.place_at-place.result c.place_at-place.ensures
    l.rules l.invariant.grown.more l.invariant.grown.new_is

pub settle_place-requires-clause-few : goal.settle_place-requires-clause-few
settle_place-requires-clause-few g c =
    let k = kept_length c.args.task.now.limits c.args.task.now.base c.loop-n.rules c.loop-n.invariant.kept in
    let b = c.requires.so_far.base_fits in let m = c.args.task.now.limits.in_range.1 in
    omega (arith, k, b, m)

pub loop-n-preserved : goal.loop-n-preserved
loop-n-preserved g c =
    let a = c.args in let r = c.requires in let l = c.loop-n in let told = g.W.Watch.told in let new = c.settle_place.new in
    goes_later a.task.now.limits a.task.now.base a.task.now.given.now
    (Listed a.greater a.places.now (l.n + 1)) a.rules.now l.rules new.rules (told a.watch.now) (told l.watch) (told new.watch)
    l.invariant.grown
    (place_goes a.task.now.base a.task.now.given.now a.rules.now a.greater a.places.now r.all_places r.new r.in_range l.n
    c.place_at-place.result c.place_at-place.ensures
    l.rules l.invariant.grown.more l.invariant.grown.new_is l.invariant.progress a.task.now.limits new.rules (told l.watch)
    (told new.watch) l.invariant.kept
    c.in_ok-settle_place.ensures)

pub returns-in_err-settle_place : goal.returns-in_err-settle_place
returns-in_err-settle_place g c =
    let a = c.args in let r = c.requires in let l = c.loop-n in let told = g.W.Watch.told in let new = c.settle_place.new in
    let p = err_from_is_err_and c.from_residual.result c.from_residual.ensures.1 in
    rw (p.1, p.2)
    (stops_later a.task.now.limits a.task.now.base a.task.now.given.now a.rules.now l.rules new.rules (told a.watch.now) (told l.watch)
    (told new.watch) l.invariant.grown
    c.in_err-settle_place.field-0.0
    (place_stops a.task.now.base a.task.now.given.now a.rules.now a.greater a.places.now r.all_places r.new r.in_range l.n
    c.place_at-place.result c.place_at-place.ensures
    l.rules l.invariant.grown.more l.invariant.grown.new_is l.invariant.progress a.task.now.limits new.rules (told l.watch)
    (told new.watch) l.invariant.kept
    c.in_err-settle_place.field-0.0 c.in_err-settle_place.ensures))

pub returns : goal.returns
returns g c =
    let a = c.args in let r = c.requires in let l = c.loop-n in
    record {
      progress = listed_done a.task.now.base a.task.now.given.now a.rules.now a.greater a.places.now r.all_places r.new r.in_range
          l.rules l.invariant.grown.more
          l.invariant.grown.new_is l.n (omega arith) l.invariant.progress;
      kept = l.invariant.kept;
      grown = l.invariant.grown;
    }
