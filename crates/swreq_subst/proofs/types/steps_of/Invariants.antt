use Rattle.std.proofs.Common.{take}
use Rattle.swreq_machine.specs.swreq_world.ReadBack.{SaySteps}
use Rattle.swreq_subst.proofs.types.steps_of.Given as goal

abbrev pub invariant-loop-k : goal.invariant-loop-k
invariant-loop-k l = SaySteps l.words.text.now l.words.world.now.lexicon l.found.items (take l.k l.steps)
