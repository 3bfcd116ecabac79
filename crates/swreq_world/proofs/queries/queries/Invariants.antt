use Rattle.std.proofs.Common.{map, take}
use Rattle.swreq_lowering.specs.Queries.{query_of}
use Rattle.swreq_lowering.specs.Words.{words_by}
use Rattle.swreq_world.specs.Filling.{FillsQueries}
use Rattle.swreq_world.proofs.queries.queries.Given as goal

abbrev pub invariant-loop-q : goal.invariant-loop-q
invariant-loop-q l = FillsQueries l.fn.table l.table (map (query_of (words_by l.words) l.order) (take l.q-index l.q-items)) l.made.items
