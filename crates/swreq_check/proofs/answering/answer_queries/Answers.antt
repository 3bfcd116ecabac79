use Rattle.std.proofs.Common.{◌≡◌, ◌+◌, ◌<◌, ◌∙◌, arith, ap, get_or, length, ℕ, set, Some, subst, sym}
use Rattle.std.proofs.lemmas.Bool.{eqb-false, eqb-true}
use Rattle.std.proofs.lemmas.List.{get_or_default}
use Rattle.swreq_births.proofs.swreq_param.Growing.{onward, unchanged}
use Rattle.swreq_machine.specs.swreq_world.Worlds.{TextWorld}
use Rattle.swreq_check.specs.Made.{AreMadeTo, IsPiece}
use Rattle.swreq_check.specs.Settings.{HasHistory, world_in}
use Rattle.swreq_check.specs.Wanted.{count_of, maker, places_of}
use Rattle.swreq_check.proofs.PiecesMade.{begin, go_on, go_through}
use Rattle.swreq_check.proofs.Placed.{placed_in}
use Rattle.swreq_check.proofs.Settled.{all_placed, means_on, place_for, some_query, world_on}
use Rattle.swreq_check.proofs.answering.answer_queries.Goals as goal

pub bounds-own-own : goal.bounds-own-own
bounds-own-own c = omega (arith, c.requires.own.machine.signature, (placed_in c.args.own.now.s.now).counted)

pub returns-then-is_empty-clause-pieces : goal.returns-then-is_empty-clause-pieces
returns-then-is_empty-clause-pieces c =
    let s = c.args.own.now.s.now in
    let w = world_in c.args.table.now s in
    let f = c.args.own.now.f in
    let v = get_or s.places.now f.place c.index-own-own.result in
    let none : length v.items ≡ 0 = omega (arith, eqb-true _ _ (sym c.is_empty.ensures ∙ c.if-is_empty.true), v.ok) in
    go_through (IsPiece w s.content) (maker s.world.now s.content) (count_of s.world.now s.content) f.place v.items c.args.pieces.now.items
    (subst (λ (n : ℕ). AreMadeTo (IsPiece w s.content) (maker s.world.now s.content)
    (count_of s.world.now s.content) f.place v.items n c.args.pieces.now.items)
    (sym none) (begin (IsPiece w s.content) (maker s.world.now s.content)
    (count_of s.world.now s.content) f.place c.args.pieces.now.items c.requires.pieces v.items))
    (all_placed s f c.index-own-own.result c.requires.own.machine.signature)

pub history_for-requires-clause-some : goal.history_for-requires-clause-some
history_for-requires-clause-some c =
    let s = c.args.own.now.s.now in
    let f = c.args.own.now.f in
    let v = get_or s.places.now f.place c.index-own-own.result in
    let not_none = eqb-false _ _ (sym c.is_empty.ensures ∙ c.if-is_empty.false) in
    some_query s f c.requires.answers c.requires.own.machine.signature c.index-own-own.result
    (omega (arith, not_none, v.ok))

pub answer_at-requires-clause-place : goal.answer_at-requires-clause-place
answer_at-requires-clause-place c =
    let v = get_or c.args.own.now.s.now.places.now c.args.own.now.f.place c.index-own-own.result in
    place_for c.args.own.now.s.now c.args.own.now.f c.requires.answers c.requires.own.machine.signature c.index-own-own.result _
    (c.loop-j.j, omega (arith, c.loop-j-test.true, c.len-j-end.ensures, v.ok), sym c.index-place.ensures)

pub answer_at-requires-clause-pieces : goal.answer_at-requires-clause-pieces
answer_at-requires-clause-pieces c = c.loop-j.invariant.0.before.counted ∙ ap (places_of c.args.own.now.s.now.world.now) c.requires.answers

pub loop-j-init : goal.loop-j-init
loop-j-init c =
    let s = c.args.own.now.s.now in
    let f = c.args.own.now.f in
    let v = get_or s.places.now f.place c.index-own-own.result in (
      begin (IsPiece (world_in c.args.table.now s) s.content) (maker s.world.now s.content) (count_of s.world.now s.content) f.place
          c.args.pieces.now.items c.requires.pieces v.items,
      record {
        own = c.requires.own;
        map = c.in_ok-map.ensures;
        history = subst (HasHistory c.args.table.now s f) (sym c.as_ref.ensures.value) c.in_ok-history.ensures;
      },
      unchanged c.args.table.now,
    )

pub loop-j-preserved : goal.loop-j-preserved
loop-j-preserved c =
    let s = c.args.own.now.s.now in
    let w = world_in c.args.table.now s in
    let f = c.args.own.now.f in
    let v = get_or s.places.now f.place c.index-own-own.result in
    let place = c.index-place.result.now in
    let (piece, is, put) = c.in_ok-answer_at.ensures.piece in
    let within : c.loop-j.j < length v.items = omega (arith, c.loop-j-test.true, c.len-j-end.ensures, v.ok) in
    let at : get_or v.items c.loop-j.j 0 ≡ place = get_or_default v.items c.loop-j.j 0 place within ∙ sym c.index-place.ensures in
    let below = ((placed_in s).each f c.index-own-own.result place c.requires.own.machine.signature).0
    (c.loop-j.j, within, sym c.index-place.ensures) in (
      subst (AreMadeTo (IsPiece w s.content) (maker s.world.now s.content) (count_of s.world.now s.content) f.place v.items
          (c.loop-j.j + 1)) (sym put)
          (subst (λ (p : ℕ).
          AreMadeTo (IsPiece w s.content) (maker s.world.now s.content) (count_of s.world.now s.content) f.place v.items (c.loop-j.j + 1)
          (set c.loop-j.pieces.items p (Some piece))) at
          (go_on (IsPiece w s.content) (maker s.world.now s.content)
          (count_of s.world.now s.content) f.place v.items c.loop-j.j c.loop-j.pieces.items
          c.loop-j.invariant.0 (subst (λ (p : ℕ). p < count_of s.world.now s.content) (sym at) below.0) piece
          (subst (λ (p : ℕ). IsPiece w s.content p piece) (sym at)
          (subst (λ (z : TextWorld). IsPiece z s.content place piece)
          (world_on c.args.table.now c.loop-j.table s c.loop-j.invariant.2 c.requires.own.ready) is)))),
      means_on c.loop-j.table c.answer_at.new.table c.in_ok-answer_at.ensures.extends _ c.loop-j.invariant.1,
      onward c.args.table.now c.loop-j.table c.answer_at.new.table c.loop-j.invariant.2 c.in_ok-answer_at.ensures.extends,
    )

pub returns-clause-pieces : goal.returns-clause-pieces
returns-clause-pieces c =
    let s = c.args.own.now.s.now in
    let w = world_in c.args.table.now s in
    let f = c.args.own.now.f in
    let v = get_or s.places.now f.place c.index-own-own.result in
    let all : c.loop-j.j ≡ length v.items = omega (arith, c.len-j-end.ensures, v.ok, c.loop-j-test.false, c.loop-j.auto.j-end) in
    go_through (IsPiece w s.content) (maker s.world.now s.content) (count_of s.world.now s.content) f.place v.items c.loop-j.pieces.items
    (subst (λ (n : ℕ).
    AreMadeTo (IsPiece w s.content) (maker s.world.now s.content) (count_of s.world.now s.content) f.place v.items n c.loop-j.pieces.items)
    all c.loop-j.invariant.0)
    (all_placed s f c.index-own-own.result c.requires.own.machine.signature)
