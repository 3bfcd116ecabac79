use Rattle.std.proofs.Common.{◌≡◌, ◌++◌, ◌+◌, drop}
use Rattle.swreq_print.specs.Rules.{trace_from, trace_text}
use Rattle.swreq_print.proofs.rules.put_trace.Given as goal

abbrev pub invariant-loop-k : goal.invariant-loop-k
invariant-loop-k l = l.out.items ++ trace_from l.names (l.k + 1) (drop l.k l.trace) ≡ l.fn.out.items ++ trace_text l.names l.trace
