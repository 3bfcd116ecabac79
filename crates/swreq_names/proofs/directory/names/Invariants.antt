use Rattle.std.proofs.Common.{◌≡◌, take}
use Rattle.swreq_names.specs.Directories.{names_of}
use Rattle.swreq_names.proofs.directory.names.Given as goal

abbrev pub invariant-loop-item : goal.invariant-loop-item
invariant-loop-item l = l.names.items ≡ names_of (take l.item-index l.items)
