use Rattle.std.proofs.Common.{◌≤◌, ◌+◌, length, take, vec_capacity}
use Rattle.swreq_machine.specs.swreq_param.Tables.{Extends}
use Rattle.swreq_minimal.specs.Typed.{Identifies, IsTypeBy}
use Rattle.swreq_minimal.proofs.typed.type_of.Given as goal

abbrev pub invariant-loop-k : goal.invariant-loop-k
invariant-loop-k l = record {
  typed : Identifies (IsTypeBy l.by.world.now.lexicon l.by.rules.now l.fn.by.params (take l.k l.word)) l.table l.at;
  extends : Extends l.initial.table l.table;
  room : length l.word + 1 ≤ vec_capacity l.test;
}
