use Rattle.std.proofs.Common.{◌≡◌, drop}
use Rattle.swreq_lines.specs.Written.{rule_named}
use Rattle.swreq_lines.proofs.rules.named.Given as goal

abbrev pub invariant-loop-k : goal.invariant-loop-k
invariant-loop-k l = rule_named (drop l.k l.rules) l.name ≡ rule_named l.rules l.name
