use Rattle.std.proofs.Common.{◌≤◌, vec_capacity}
use Rattle.swreq_symbols.proofs.Giving.{NoneGiven, VanishesAfter}
use Rattle.swreq_symbols.proofs.behind.first_behind.Given as goal

abbrev pub invariant-loop-rank : goal.invariant-loop-rank
invariant-loop-rank l = record {
  none : NoneGiven l.world.lexicon (VanishesAfter l.rules l.word) l.a l.rank;
  room : vec_capacity l.initial.test ≤ vec_capacity l.test;
}
