use Rattle.std.proofs.Common.{take}
use Rattle.swreq_lowering.specs.Adding.{Adds}
use Rattle.swreq_lowering.specs.Walk.{in_members}
use Rattle.swreq_lowering.specs.Words.{words_by}
use Rattle.swreq_lowering.proofs.protocols.add_members.Given as goal

abbrev pub invariant-loop-m : goal.invariant-loop-m
invariant-loop-m l = Adds l.fn.table l.table l.fn.into.items l.into.items (in_members (words_by l.words) (take l.m-index l.members))
