use Rattle.std.proofs.Common.{◌+◌, ◌≤◌, vec_capacity, vec_len}
use Rattle.swreq_machine.proofs.Typed.{Made}
use Rattle.swreq_machine.proofs.reduced.read_steps.Given as goal

abbrev pub invariant-loop-k : goal.invariant-loop-k
invariant-loop-k l = record {
  made : Made l.world.lexicon l.rules l.word l.k l.steps.items;
  few : vec_len l.steps + 1 ≤ l.k;
  room : vec_capacity l.initial.steps ≤ vec_capacity l.steps;
  room_test : vec_capacity l.initial.test ≤ vec_capacity l.test;
}
