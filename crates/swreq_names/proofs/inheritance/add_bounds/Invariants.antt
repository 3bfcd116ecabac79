use Rattle.std.proofs.Common.{◌≡◌, ◌++◌, take}
use Rattle.std.specs.List.{flat_map}
use Rattle.std.specs.Option.{option_to_list}
use Rattle.swreq_names.specs.Inheritance.{named_by}
use Rattle.swreq_names.proofs.inheritance.add_bounds.Given as goal

abbrev pub invariant-loop-e : goal.invariant-loop-e
invariant-loop-e l = l.into.items ≡ l.fn.into.items ++ flat_map (λ e. option_to_list (named_by l.text l.d e)) (take l.e-index l.entities)
