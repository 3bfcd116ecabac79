use Rattle.swreq_machine.specs.swreq_symbols.Vanishing.{Links}
use Rattle.swreq_minimal.specs.OfParams.{AreOfParams}
use Rattle.swreq_minimal.proofs.of_params.of_params.Given as goal

abbrev pub invariant-loop-k : goal.invariant-loop-k
invariant-loop-k l = AreOfParams (Links l.rules) l.rules l.k l.system.items
