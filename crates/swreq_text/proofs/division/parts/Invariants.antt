use Rattle.std.proofs.Common.{◌-◌, length}
use Rattle.swreq_text.proofs.Divided.{IsSearched}
use Rattle.swreq_text.proofs.division.parts.Given as goal

abbrev pub invariant-loop-found : goal.invariant-loop-found
invariant-loop-found l = IsSearched l.input l.at

abbrev pub decreases-loop-found : goal.decreases-loop-found
decreases-loop-found l = length l.input - l.at
