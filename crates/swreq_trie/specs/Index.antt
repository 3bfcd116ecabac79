-- What the nodes of a trie say of the stored sides.
use Rattle.std.specs.Prelude.{◌≡◌, ℕ, ◌-◌, ◌<◌, ◌≤◌, List, ◌++◌, length, slice_get, Option, Some, Vec}
use Rattle.std.specs.declared.alloc.Global.{Global}
use Rattle.swreq_rule.specs.swreq_word.declared.symbols.Symbol.{Symbol}
use Rattle.swreq_trie.specs.declared.edges.Edge.{Edge}
use Rattle.swreq_trie.specs.declared.lengths.Lengths.{Lengths}
use Rattle.swreq_trie.specs.declared.spots.Spot.{Spot}
use Rattle.swreq_trie.specs.declared.trie.Entry.{Entry}
use Rattle.swreq_trie.specs.Paths.{IsChild, IsForked, Leads}
use Rattle.swreq_trie.specs.Marks.{EndsAt, IsListed}
use Rattle.swreq_trie.specs.Stored.{NoneLonger, NoneShorter}

-- Edges lead to the node by the symbols of a side with this number, and none before it is the same.
pub record FirstThere (edges : List Edge) (stored : List Entry) (node number : ℕ) : Type 0 where
  pub side : ℕ
  pub entry : Entry
  pub is_entry : slice_get stored side ≡ Some entry
  pub number_is : entry.number ≡ number
  pub leads : Leads edges 0 entry.left node
  pub first : (k : ℕ) (other : Entry) → slice_get stored k ≡ Some other → other.left ≡ entry.left → side ≤ k

-- Edges lead by its symbols to a node at which a side ends.
abbrev pub HasEnd : List Edge → List (Option ℕ) → List Symbol → Type 0
HasEnd edges ends left = (node : ℕ) × (number : ℕ) × Leads edges 0 left node × EndsAt ends node number

-- the start of the side with this index, and a place in it
abbrev pub begin_of : ℕ → Entry → Spot
begin_of k entry = record { side = k; at = 0; rest = length entry.left; number = entry.number }

abbrev pub spot_of : ℕ → Entry → ℕ → Spot
spot_of k entry at = record { side = k; at = at; rest = length entry.left - at; number = entry.number }

-- Its first symbols, up to this many, lead to nodes at which its start is listed.
abbrev pub IsPassingUpTo : List Edge → List (Vec Spot Global) → Spot → List Symbol → ℕ → Type 0
IsPassingUpTo edges passing begin left count = (front rest : List Symbol) → left ≡ front ++ rest → 0 < length front → length front ≤ count
    → (node : ℕ) × Leads edges 0 front node × IsListed passing node begin

-- it is listed at each node on its way
abbrev pub IsPassing : List Edge → List (Vec Spot Global) → Spot → List Symbol → Type 0
IsPassing edges passing begin left = IsPassingUpTo edges passing begin left (length left)

-- the node is on its way
abbrev pub IsOnWay : List Edge → List Symbol → ℕ → Type 0
IsOnWay edges left node = (front : List Symbol) × (rest : List Symbol) × (left ≡ front ++ rest) × Leads edges 0 front node

-- This spot is listed at the node to which an edge leads from the root by the symbol.
abbrev pub HasSpot : List Edge → List (Vec Spot Global) → Spot → Symbol → Type 0
HasSpot edges inside spot symbol = (node : ℕ) × IsChild edges 0 symbol node × IsListed inside node spot

-- So is each place past the first and below this number, by its symbol there.
abbrev pub IsInsideBelow : List Edge → List (Vec Spot Global) → ℕ → Entry → ℕ → Type 0
IsInsideBelow edges inside k entry count =
    (at : ℕ) (symbol : Symbol) → 0 < at → at < count → slice_get entry.left at ≡ Some symbol
    → HasSpot edges inside (spot_of k entry at) symbol

abbrev pub IsInside : List Edge → List (Vec Spot Global) → ℕ → Entry → Type 0
IsInside edges inside k entry = IsInsideBelow edges inside k entry (length entry.left)

-- an edge leads from the root to the node by the symbol at this place, past the first
abbrev pub IsWithin : List Edge → List Symbol → ℕ → ℕ → Type 0
IsWithin edges left at node = (symbol : Symbol) × (0 < at) × (slice_get left at ≡ Some symbol) × IsChild edges 0 symbol node

-- the spot is the start of a stored side on whose way the node is
pub record PassesRight (edges : List Edge) (stored : List Entry) (node : ℕ) (spot : Spot) : Type 0 where
  pub entry : Entry
  pub is_entry : slice_get stored spot.side ≡ Some entry
  pub spot_is : spot ≡ begin_of spot.side entry
  pub on_way : IsOnWay edges entry.left node

-- the spot is a place in a stored side, past the first, to whose symbol there the node belongs
pub record StandsRight (edges : List Edge) (stored : List Entry) (node : ℕ) (spot : Spot) : Type 0 where
  pub entry : Entry
  pub is_entry : slice_get stored spot.side ≡ Some entry
  pub spot_is : spot ≡ spot_of spot.side entry spot.at
  pub within : IsWithin edges entry.left spot.at node

pub record IsIndex (edges : List Edge) (ends : List (Option ℕ)) (passing inside : List (Vec Spot Global))
    (lengths : Lengths) (stored : List Entry)
    : Type 0 where
  pub forked : IsForked edges
  pub some : (k : ℕ) (entry : Entry) → slice_get stored k ≡ Some entry → 0 < length entry.left
  pub none_longer : NoneLonger stored lengths.longest
  pub none_shorter : NoneShorter stored lengths.shortest
  pub ends_right : (node number : ℕ) → EndsAt ends node number → FirstThere edges stored node number
  pub has_end : (k : ℕ) (entry : Entry) → slice_get stored k ≡ Some entry → HasEnd edges ends entry.left
  pub is_passing : (k : ℕ) (entry : Entry) → slice_get stored k ≡ Some entry → IsPassing edges passing (begin_of k entry) entry.left
  pub is_inside : (k : ℕ) (entry : Entry) → slice_get stored k ≡ Some entry → IsInside edges inside k entry
  pub passing_right : (node : ℕ) (spot : Spot) → IsListed passing node spot → PassesRight edges stored node spot
  pub inside_right : (node : ℕ) (spot : Spot) → IsListed inside node spot → StandsRight edges stored node spot
