use Rattle.std.proofs.Common.{◌≤◌, take, vec_capacity}
use Rattle.swreq_map.specs.Follows.{AreConforming}
use Rattle.swreq_map.proofs.map.conforming.Given as goal

abbrev pub invariant-loop-k : goal.invariant-loop-k
invariant-loop-k l = record {
  found : AreConforming l.class.rules.now l.class.protocols l.class.word.now (take l.k l.symbols) l.found.items;
  fits : vec_capacity l.initial.room ≤ vec_capacity l.room;
}
