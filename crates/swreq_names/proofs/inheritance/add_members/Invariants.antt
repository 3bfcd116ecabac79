use Rattle.std.proofs.Common.{◌≡◌, ◌++◌, take}
use Rattle.std.specs.List.{flat_map}
use Rattle.swreq_names.specs.Walk.{inherited_in_clause}
use Rattle.swreq_names.proofs.inheritance.add_members.Given as goal

abbrev pub invariant-loop-m : goal.invariant-loop-m
invariant-loop-m l = l.into.items ≡ l.fn.into.items ++ flat_map (λ m. inherited_in_clause l.text l.d m.clause) (take l.m-index l.members)
