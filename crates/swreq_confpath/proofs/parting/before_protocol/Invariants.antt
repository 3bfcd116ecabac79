use Rattle.std.proofs.Common.{take}
use Rattle.swreq_confpath.specs.Parting.{HasNoProtocol}
use Rattle.swreq_confpath.proofs.parting.before_protocol.Given as goal

abbrev pub invariant-loop-k : goal.invariant-loop-k
invariant-loop-k l = HasNoProtocol (take l.k l.word)
