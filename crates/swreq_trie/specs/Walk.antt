-- The nodes on the way of a word at which stored sides end.
use Rattle.std.specs.Prelude.{◌≡◌, ℕ, ◌+◌, ◌<◌, ◌≤◌, List, ◌++◌, length, take, Option}
use Rattle.swreq_rule.specs.swreq_word.declared.symbols.Symbol.{Symbol}
use Rattle.swreq_trie.specs.declared.edges.Edge.{Edge}
use Rattle.swreq_trie.specs.declared.walk.Met.{Met}
use Rattle.swreq_trie.specs.Paths.{Leads}
use Rattle.swreq_trie.specs.Marks.{EndsAt, Holds}

-- none ends at the nodes to which the first symbols of the word lead, up to this many of them
abbrev pub NoEndUpTo : List Edge → List (Option ℕ) → List Symbol → ℕ → Type 0
NoEndUpTo edges ends w count = (front rest : List Symbol) (node number : ℕ) → w ≡ front ++ rest → 0 < length front → length front ≤ count
    → Leads edges 0 front node → EndsAt ends node number → ⊥

-- none ends on the whole way
abbrev pub NoEnd : List Edge → List (Option ℕ) → List Symbol → Type 0
NoEnd edges ends w = NoEndUpTo edges ends w (length w)

-- The first n symbols of the word tell that none ends on its way: none does on that of any word that begins with them.
abbrev pub TellsNoEnd : List Edge → List (Option ℕ) → List Symbol → ℕ → Type 0
TellsNoEnd edges ends w count = (v : List Symbol) → take count v ≡ take count w → NoEnd edges ends v

-- the side with this number ends on the way, and none ends before it
pub record FirstEnd (edges : List Edge) (ends : List (Option ℕ)) (w : List Symbol) (number : ℕ) : Type 0 where
  pub count : ℕ
  pub front : List Symbol
  pub rest : List Symbol
  pub node : ℕ
  pub cut : w ≡ front ++ rest
  pub longer : count < length front
  pub leads : Leads edges 0 front node
  pub ends_there : EndsAt ends node number
  pub none_before : NoEndUpTo edges ends w count
  pub next : length front ≤ count + 1

-- the first `met.depth` symbols of the word lead to the node
pub record IsMet (edges : List Edge) (w : List Symbol) (met : Met) : Type 0 where
  pub front : List Symbol
  pub rest : List Symbol
  pub cut : w ≡ front ++ rest
  pub depth_is : met.depth ≡ length front
  pub leads : Leads edges 0 front met.node

-- the list has the nodes at which a side ends and to which the first symbols of the word lead, up to `count` of them
pub record AreMetUpTo (edges : List Edge) (ends : List (Option ℕ)) (w : List Symbol) (count : ℕ) (nodes : List Met) : Type 0 where
  pub right : (met : Met) → Holds nodes met → IsMet edges w met
  pub ended : (front rest : List Symbol) (node number : ℕ) → w ≡ front ++ rest → 0 < length front → length front ≤ count
      → Leads edges 0 front node → EndsAt ends node number → Holds nodes (record { node = node; depth = length front })

-- those of the whole way, and the node to which the word leads
pub record AreMet (edges : List Edge) (ends : List (Option ℕ)) (w : List Symbol) (nodes : List Met) : Type 0 where
  pub right : (met : Met) → Holds nodes met → IsMet edges w met
  pub ended : (front rest : List Symbol) (node number : ℕ) → w ≡ front ++ rest → 0 < length front
      → Leads edges 0 front node → EndsAt ends node number → Holds nodes (record { node = node; depth = length front })
  pub last : (node : ℕ) → Leads edges 0 w node → Holds nodes (record { node = node; depth = length w })
