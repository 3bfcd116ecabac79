use Rattle.std.proofs.Common.{◌≡◌, ◌++◌, take}
use Rattle.std.specs.List.{flat_map}
use Rattle.swreq_names.specs.Walk.{inherited_in}
use Rattle.swreq_names.proofs.inheritance.add_clause.Given as goal

abbrev pub invariant-loop-r : goal.invariant-loop-r
invariant-loop-r l = l.into.items ≡ l.fn.into.items ++ flat_map (inherited_in l.text l.d) (take l.r-index l.clause)
