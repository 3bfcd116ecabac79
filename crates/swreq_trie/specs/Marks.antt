-- What stands at the nodes of a trie: which side ends there, and which sides are listed there.
use Rattle.std.specs.Prelude.{◌≡◌, ◌⊎◌, ℕ, ◌<◌, ◌≤◌, List, length, slice_get, Option, Some, Vec}
use Rattle.std.specs.declared.alloc.Global.{Global}
use Rattle.swreq_trie.specs.declared.spots.Spot.{Spot}

-- the side with this number ends at the node
abbrev pub EndsAt : List (Option ℕ) → ℕ → ℕ → Type 0
EndsAt ends node number = slice_get ends node ≡ Some (Some number)

-- the same ends at each node
abbrev pub SameEnds : List (Option ℕ) → List (Option ℕ) → Type 0
SameEnds old new = (node number : ℕ) → (EndsAt old node number → EndsAt new node number) × (EndsAt new node number → EndsAt old node number)

-- none ends at the node
abbrev pub NoneEndsAt : List (Option ℕ) → ℕ → Type 0
NoneEndsAt ends node = (number : ℕ) → EndsAt ends node number → ⊥

-- the side with the number ends at the node, or the one that ended there before, and the same as before at each other node
pub record Marked (old new : List (Option ℕ)) (node number : ℕ) : Type 0 where
  pub here : (p : ℕ) × EndsAt new node p
  pub kept : (n p : ℕ) → EndsAt old n p → EndsAt new n p
  pub only : (n p : ℕ) → EndsAt new n p → EndsAt old n p ⊎ ((n ≡ node) × (p ≡ number) × NoneEndsAt old node)

-- it stands in the list
abbrev pub Holds : {X : Type 0} → List X → X → Type 0
Holds xs x = (k : ℕ) × (slice_get xs k ≡ Some x)

-- the spot stands in the list of the node
abbrev pub IsListed : List (Vec Spot Global) → ℕ → Spot → Type 0
IsListed lists node spot = (list : Vec Spot Global) × (slice_get lists node ≡ Some list) × Holds list.items spot

-- what is listed stays listed
abbrev pub KeepsListed : List (Vec Spot Global) → List (Vec Spot Global) → Type 0
KeepsListed old new = (node : ℕ) (spot : Spot) → IsListed old node spot → IsListed new node spot

-- what is listed was listed, or is one of these
abbrev pub ListsOnly : List (Vec Spot Global) → List (Vec Spot Global) → (ℕ → Spot → Type 0) → Type 0
ListsOnly old new New = (node : ℕ) (spot : Spot) → IsListed new node spot → IsListed old node spot ⊎ New node spot

-- of the spots those in sides before this one, and no others
pub record Retains (old new : List Spot) (side : ℕ) : Type 0 where
  pub only : (spot : Spot) → Holds new spot → Holds old spot × (spot.side < side)
  pub all : (spot : Spot) → Holds old spot → spot.side < side → Holds new spot

-- the same of each list
pub record Forgets (old new : List (Vec Spot Global)) (side : ℕ) : Type 0 where
  pub only : (node : ℕ) (spot : Spot) → IsListed new node spot → IsListed old node spot × (spot.side < side)
  pub all : (node : ℕ) (spot : Spot) → IsListed old node spot → spot.side < side → IsListed new node spot

-- the same of the first `count` lists, and the others as they were
pub record ForgetsBelow (old new : List (Vec Spot Global)) (side count : ℕ) : Type 0 where
  pub as_many : length new ≡ length old
  pub done : (node : ℕ) (list : Vec Spot Global) → node < count → slice_get new node ≡ Some list
      → (before : Vec Spot Global) × (slice_get old node ≡ Some before) × Retains before.items list.items side
  pub same : (node : ℕ) → count ≤ node → slice_get new node ≡ slice_get old node

-- the same number of lists, each with the spots of the other
pub record AreCopies (old new : List (Vec Spot Global)) : Type 0 where
  pub as_many : length new ≡ length old
  pub each : (node : ℕ) (list : Vec Spot Global) → slice_get old node ≡ Some list
      → (copy : Vec Spot Global) × (slice_get new node ≡ Some copy) × (copy.items ≡ list.items)
