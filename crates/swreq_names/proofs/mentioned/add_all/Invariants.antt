use Rattle.std.proofs.Common.{◌≡◌, ◌++◌, take}
use Rattle.std.specs.List.{flat_map}
use Rattle.swreq_names.proofs.mentioned.add_all.Given as goal

abbrev pub invariant-loop-part : goal.invariant-loop-part
invariant-loop-part g l = l.into.items ≡ l.fn.into.items ++ flat_map (g.T.Mentions.names l.text) (take l.part-index l.parts)
