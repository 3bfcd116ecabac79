use Rattle.std.proofs.Common.{◌≡◌, ◌∙◌, ◌+◌, cond, length, get_or, ap, sym, arith, add-one}
use Rattle.swreq_closure.specs.Bits.{count_below, room}
use Rattle.swreq_lexicon.proofs.PlaceSets.{set_empty, set_more, fresh_more}
use Rattle.swreq_lexicon.proofs.protocols.set_of.Goals as goal

pub loop-place-init : goal.loop-place-init
loop-place-init c =
    let set = c.in_ok-set.set in
    record {
      size = c.in_ok-set.ensures.room;
      counted = λ test. set_empty set c.in_ok-set.ensures.none test (room set);
      fresh = λ r g l. c.in_ok-set.ensures.none (get_or c.args.places.now r 0);
    }

pub loop-place-preserved : goal.loop-place-preserved
loop-place-preserved c =
    let places = c.args.places.now in
    let i = c.loop-place.place-index in
    let old = c.loop-place.set in
    let new = c.insert.new.self in
    let within = c.requires.within i c.loop-place-test.true in
    let size = c.loop-place.invariant.size in
    let absent = c.loop-place.invariant.fresh i (omega arith) c.loop-place-test.true in
    record {
      size = c.insert.ensures.room ∙ size;
      counted = λ test. set_more old new (get_or places i 0) c.insert.ensures.room
          (omega (arith, within, size)) absent c.insert.ensures.there c.insert.ensures.others test
          ∙ ap (λ n. n + cond (test (get_or places i 0)) 1 0) (c.loop-place.invariant.counted test)
          ∙ ap (count_below (λ r. test (get_or places r 0))) (sym (add-one i));
      fresh = fresh_more places old new i c.requires.apart c.loop-place-test.true c.insert.ensures.others c.loop-place.invariant.fresh;
    }

pub returns-clause-set : goal.returns-clause-set
returns-clause-set c test =
    let places = c.args.places.now in
    let last : c.loop-place.place-index ≡ length places = omega (arith, c.loop-place-test.false, c.loop-place.auto.place-index-end) in
    c.loop-place.invariant.counted test ∙ ap (count_below (λ r. test (get_or places r 0))) last
