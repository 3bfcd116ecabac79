-- Member symbols by rank. Within each name the protocols stand in their order.
use Rattle.std.specs.Prelude.{◌≡◌, ◌↔◌, ◌<◌, ◌≤◌, ◌+◌, ◌&&◌, ◌||◌, ℕ, zero, suc, Bool, nat_eq, List, [], ◌++◌, Some, length, map, filter, slice_get, slice_index, slice_index_or, Contains}
use Rattle.std.specs.List.{list_any}
use Rattle.swreq_closure.specs.Bits as sets
use Rattle.swreq_derive.specs.swreq_param.declared.ids.NameId.{NameId}
use Rattle.swreq_derive.specs.swreq_param.declared.ids.ProtoId.{ProtoId}
use Rattle.swreq_lexicon.specs.declared.pair.ProtocolName.{ProtocolName}
use Rattle.swreq_lexicon.specs.Lexicons.{pair}
use Rattle.swreq_lexicon.specs.Associated.{name}

-- P declares A or inherits a protocol that declares A.
abbrev pub has_member : (ProtoId → ProtoId → Bool) → List ProtocolName → ProtoId → NameId → Bool
has_member inherits associated p a =
    list_any (λ d. nat_eq a.rank d.name.rank && (nat_eq p.rank d.proto.rank || inherits p d.proto)) associated

module _ (order : List ProtoId) (has : ProtoId → NameId → Bool) where
  -- the protocols that have the member name
  abbrev pub having : NameId → List ProtoId
  having a = filter (λ p. has p a) order

  abbrev pub symbols_of : NameId → List ProtocolName
  symbols_of a = map (λ p. pair p a) (having a)

  -- the member symbols of the first n names
  abbrev pub symbols_below : ℕ → List ProtocolName
  symbols_below zero = []
  symbols_below (suc n) = symbols_below n ++ symbols_of (name n)

  -- The numbers of member symbols of the first n names.
  pub record AreCounts (n : ℕ) (counts : List ℕ) : Type 0 where
    pub count : length counts ≡ n
    pub each : (a : ℕ) → a < n → slice_index counts a ≡ length (symbols_of (name a))

  -- The places where each name begins among the member symbols of n names, and the place after the last one.
  pub record AreStarts (n : ℕ) (starts : List ℕ) : Type 0 where
    pub count : length starts ≡ n + 1
    pub each : (a : ℕ) → a ≤ n → slice_index starts a ≡ length (symbols_below a)

-- For each name, the protocols that declare it.
abbrev pub AreDeclarers : List ProtocolName → List (List ProtoId) → Type 0
AreDeclarers associated lists = (p : ProtoId) (a : NameId) → Contains (slice_index_or lists a.rank []) p ↔ Contains associated (pair p a)

-- ---- places in an order

-- P stands at the place k, and at no other place.
abbrev pub StandsAt : List ProtoId → ProtoId → ℕ → Type 0
StandsAt order p k = (slice_get order k ≡ Some p) × ((j : ℕ) → slice_get order j ≡ Some p → j ≡ k)

-- No protocol stands twice.
abbrev pub AreOnce : List ProtoId → Type 0
AreOnce order = (i j : ℕ) (p : ProtoId) → slice_get order i ≡ Some p → slice_get order j ≡ Some p → i ≡ j

-- The places of the protocols of the order, by rank.
abbrev pub ArePlaces : List ProtoId → List ℕ → Type 0
ArePlaces order places = (k : ℕ) (p : ProtoId) → slice_get order k ≡ Some p → slice_get places p.rank ≡ Some k

-- the places in the row of a name, or no places if it has no row
abbrev pub row_of : List (List ℕ) → NameId → List ℕ
row_of rows a = slice_index_or rows a.rank []

-- The row of each name has the places of the protocols that have the name.
abbrev pub AreRows : List ProtoId → (ProtoId → NameId → Bool) → List (List ℕ) → Type 0
AreRows order has rows = (k : ℕ) (p : ProtoId) (a : NameId) → slice_get order k ≡ Some p → sets.has (row_of rows a) k ≡ has p a

module _ (inherits : ProtoId → ProtoId → Bool) (order : List ProtoId) where
  -- The set has the places of Q and of the protocols that inherit Q.
  abbrev pub AreHeirs : ProtoId → List ℕ → Type 0
  AreHeirs q set = (k : ℕ) (p : ProtoId) → slice_get order k ≡ Some p → sets.has set k ≡ (nat_eq p.rank q.rank || inherits p q)

-- The protocols in their order, the places where the member symbols of each name begin, and for each name the places of the protocols that
-- have it.
pub record SymbolsView : Type 0 where
  pub order : List ProtoId
  pub starts : List ℕ
  pub rows : List (List ℕ)
