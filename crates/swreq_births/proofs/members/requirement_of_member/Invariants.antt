use Rattle.swreq_births.proofs.members.requirement_of_member.Given as goal

abbrev pub invariant-loop-k : goal.invariant-loop-k
invariant-loop-k l = Unit {0}
