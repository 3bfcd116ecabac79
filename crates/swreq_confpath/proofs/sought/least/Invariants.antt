use Rattle.std.proofs.Common.{◌++◌, take}
use Rattle.swreq_machine.specs.swreq_symbols.Vanishing.{IsLeastBy, Links}
use Rattle.swreq_confpath.proofs.sought.least.Given as goal

abbrev pub invariant-loop-k : goal.invariant-loop-k
invariant-loop-k l = record {
  least : IsLeastBy l.rules l.word.items;
  linked : Links l.rules (l.front ++ take l.k l.rest) l.word.items;
}
