use Rattle.std.proofs.Common.{◌<◌, ◌≤◌, ◌-◌, get_or}
use Rattle.swreq_lexicon.proofs.symbols.last_from.Given as goal

abbrev pub invariant-loop-low : goal.invariant-loop-low
invariant-loop-low l = record {
  ordered : l.low < l.high;
  within : l.high ≤ l.names;
  from : get_or l.starts l.low 0 ≤ l.rank;
  to : l.rank < get_or l.starts l.high 0;
}

abbrev pub decreases-loop-low : goal.decreases-loop-low
decreases-loop-low l = l.high - l.low
