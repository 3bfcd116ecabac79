use Rattle.std.proofs.Common.{◌≡◌, ◌+◌, ◌++◌, drop}
use Rattle.swreq_explain.specs.Numbering.{numbered_from}
use Rattle.swreq_explain.proofs.numbered.add_numbered.Given as goal

abbrev pub invariant-loop-k : goal.invariant-loop-k
invariant-loop-k l =
    l.numbered.items ++ numbered_from l.owner (l.k + 1) (drop l.k l.list) ≡ l.initial.numbered.items ++ numbered_from l.owner 1 l.list
