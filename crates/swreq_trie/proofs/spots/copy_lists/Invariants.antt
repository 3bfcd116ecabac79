use Rattle.std.proofs.Common.{take}
use Rattle.swreq_trie.specs.Marks.{AreCopies}
use Rattle.swreq_trie.proofs.spots.copy_lists.Given as goal

abbrev pub invariant-loop-list : goal.invariant-loop-list
invariant-loop-list l = AreCopies (take l.list-index l.lists) l.copies.items
