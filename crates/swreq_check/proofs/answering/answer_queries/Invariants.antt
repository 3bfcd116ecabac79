use Rattle.swreq_machine.specs.swreq_param.Tables.{Extends}
use Rattle.swreq_check.specs.Made.{AreMadeTo, IsPiece}
use Rattle.swreq_check.specs.Settings.{AreMeansFor, world_in}
use Rattle.swreq_check.specs.Wanted.{count_of, maker}
use Rattle.swreq_check.proofs.answering.answer_queries.Given as goal

abbrev pub invariant-loop-j : goal.invariant-loop-j
invariant-loop-j l =
    let s = l.own.s.now in
    AreMadeTo (IsPiece (world_in l.initial.table s) s.content) (maker s.world.now s.content) (count_of s.world.now s.content)
    l.own.f.place l.places.items l.j l.pieces.items
    × AreMeansFor l.table l.means × Extends l.initial.table l.table
