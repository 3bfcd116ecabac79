use Rattle.std.proofs.Common.{◌≡◌, ◌++◌, drop}
use Rattle.std.specs.List.{flat_map}
use Rattle.swreq_text.specs.Joined.{GrewByPart}
use Rattle.swreq_query.specs.Systems.{rule_line}
use Rattle.swreq_query.proofs.system.put_rules.Given as goal

abbrev pub invariant-loop-k : goal.invariant-loop-k
invariant-loop-k l = record {
  rest : l.out.items ++ flat_map (rule_line l.names) (drop l.k l.rules) ≡ l.fn.out.items ++ flat_map (rule_line l.names) l.rules;
  part : GrewByPart l.fn.out.items (flat_map (rule_line l.names) l.rules) l.out.items;
}
