use Rattle.std.proofs.Common.{ℕ}
use Rattle.swreq_trie.specs.Places.{IsFrom}
use Rattle.swreq_trie.specs.Keys.{Gains, place_of}
use Rattle.swreq_trie.proofs.Collecting.{GainedAtBelow}
use Rattle.swreq_trie.proofs.trie.Trie.add_all_from.Given as goal

abbrev pub invariant-loop-at : goal.invariant-loop-at
invariant-loop-at l =
    Gains (GainedAtBelow (λ at key. (k : ℕ) × IsFrom l.self l.left l.number k at (place_of key)) l.at) l.initial.keys.items l.keys.items
