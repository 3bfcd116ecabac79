-- The protocols that inherit each protocol, by places in an order.
use Rattle.std.specs.Prelude.{◌≡◌, ◌↔◌, ◌<◌, ℕ, Bool, false, List, Option, None, Some, length, slice_get, slice_index_or, Contains}
use Rattle.swreq_closure.specs.Chains.{Matrix, leads, next}
use Rattle.swreq_names.specs.declared.directory.Declaration.{Declaration}
use Rattle.swreq_names.specs.Spaces.{place}
use Rattle.swreq_derive.specs.swreq_param.declared.ids.ProtoId.{ProtoId}
use Rattle.swreq_rank.specs.Ranks.{Bytes}
use Rattle.swreq_lexicon.specs.Views.{place_by}

-- A protocol with a rank below this number stands at the first place of each declared name.
abbrev pub HaveProtocols : List Declaration → List ℕ → ℕ → Type 0
HaveProtocols declared places count = (name : Bytes) (j : ℕ) → place declared name ≡ Some j
    → (q : ProtoId) × (q.rank < count) × (place_by places q ≡ j)

-- Each step leads to a place of a protocol with a rank below this number.
abbrev pub LeadToProtocols : List ℕ → ℕ → List (List ℕ) → Type 0
LeadToProtocols places count graph = (i j : ℕ) → Contains (next graph i) j
    → (q : ProtoId) × (q.rank < count) × (place_by places q ≡ j)

-- For each place in written order, the position of a protocol that stands there, if one does: its place in the order. For each position,
-- the positions that chains of steps lead to.
pub record HeirsView : Type 0 where
  pub positions : List (Option ℕ)
  pub rows : Matrix

-- the position of a protocol that stands at this place in written order, if one does
abbrev pub position_at : List (Option ℕ) → ℕ → Option ℕ
position_at positions place = slice_index_or positions place None

abbrev pub leads_up : Matrix → Option ℕ → ℕ → Bool
leads_up rows None k = false
leads_up rows (Some m) k = leads rows m k

module _ (order : List ProtoId) (places : List ℕ) where
  -- At the position of a place stands a protocol of that place.
  abbrev pub ArePositions : List (Option ℕ) → Type 0
  ArePositions positions = (place m : ℕ) → position_at positions place ≡ Some m
      → (q : ProtoId) × (slice_get order m ≡ Some q) × (place_by places q ≡ place)

  -- The place of each of the first n protocols has a position, if it is below the bound.
  abbrev pub HavePositions : List (Option ℕ) → ℕ → Type 0
  HavePositions positions n = (k : ℕ) (p : ProtoId) → k < n → slice_get order k ≡ Some p → place_by places p < length positions
      → (m : ℕ) × (position_at positions (place_by places p) ≡ Some m)

  -- The k-th protocol directly inherits a protocol with the position m.
  pub record IsDirectHeir (positions : List (Option ℕ)) (graph : List (List ℕ)) (m k : ℕ) : Type 0 where
    pub heir : ProtoId
    pub at : slice_get order k ≡ Some heir
    pub place : ℕ
    pub step : Contains (next graph (place_by places heir)) place
    pub position : position_at positions place ≡ Some m

  -- The list at each position has the direct heirs of its protocol among the first n protocols.
  abbrev pub AreDirectHeirs : List (Option ℕ) → List (List ℕ) → ℕ → List (List ℕ) → Type 0
  AreDirectHeirs positions graph n lists = (m k : ℕ) → Contains (next lists m) k ↔ ((k < n) × IsDirectHeir positions graph m k)

  -- Chains lead from the position of a place to the protocols that inherit the protocol of that place, and to no others.
  abbrev pub AreAllHeirs : Matrix → HeirsView → Type 0
  AreAllHeirs inherits h = (k place : ℕ) (p : ProtoId) → slice_get order k ≡ Some p
      → leads_up h.rows (position_at h.positions place) k ≡ leads inherits (place_by places p) place
