use Rattle.std.proofs.Common.{◌<◌, ℕ, List, [], get_or, Contains}
use Rattle.swreq_names.specs.Directories.{names_of}
use Rattle.swreq_names.proofs.declarers.all_names.Given as goal

abbrev pub invariant-loop-directory : goal.invariant-loop-directory
invariant-loop-directory l =
    (j : ℕ) (q : List ℕ) → j < l.directory-index → Contains (names_of (get_or l.members j [])) q → Contains l.all.items q
