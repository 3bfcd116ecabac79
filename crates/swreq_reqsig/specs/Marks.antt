-- Marks of protocols, by their ranks, as the code finds those that are reached.
use Rattle.std.specs.Prelude.{◌≡◌, ◌↔◌, ◌<◌, ◌≤◌, ◌&&◌, ℕ, Bool, true, false, List, [], ◌∷◌, Some, length, map, slice_get, slice_index_or, slice_set}
use Rattle.swreq_valid.specs.swreq_param.declared.ids.ProtoId.{ProtoId}
use Rattle.swreq_valid.specs.swreq_param.declared.ids.TermId.{TermId}
use Rattle.swreq_valid.specs.swreq_param.Terms.{Term}
use Rattle.swreq_valid.specs.swreq_derive.declared.requirements.Requirement.TheVariants.{Conf}
use Rattle.swreq_valid.specs.swreq_derive.Kept.{Owned}
use Rattle.swreq_valid.specs.Flags.{chosen, unset}
use Rattle.swreq_reqsig.specs.declared.places.Place.{Place}
use Rattle.swreq_reqsig.specs.Places.{owned_at}
use Rattle.swreq_reqsig.specs.Reaching.{Reaches}

abbrev pub IsMarked : List Bool → ProtoId → Type 0
IsMarked marks q = slice_get marks q.rank ≡ Some true

-- those of the requirements at the places whose flags are set
abbrev pub kept_at : List Term → List Place → List Bool → List Owned
kept_at terms places flags = chosen (map (owned_at terms) places) flags

-- One of the marked ones reaches Q.
pub record IsLedTo (family : List Owned) (starts : List Bool) (q : ProtoId) : Type 0 where
  pub start : ProtoId
  pub is_marked : IsMarked starts start
  pub reaches : Reaches family start q

-- Those first marked reach the marked ones.
abbrev pub AreReachable : List Owned → List Bool → List Bool → Type 0
AreReachable family starts marks = (q : ProtoId) → IsMarked marks q → IsLedTo family starts q

-- Just those are marked that those first marked reach.
abbrev pub TellLed : List Owned → List Bool → List Bool → Type 0
TellLed family starts marks = (q : ProtoId) → IsMarked marks q ↔ IsLedTo family starts q

-- Just those are marked that P reaches.
abbrev pub TellReached : List Owned → ProtoId → List Bool → Type 0
TellReached family p marks = (q : ProtoId) → IsMarked marks q ↔ Reaches family p q

-- ---- one place

-- The protocol at the place, and that to which something conforms there, have ranks below this.
pub record HasRanksBelow (bound : ℕ) (x : Place) : Type 0 where
  pub own : x.proto.rank < bound
  pub other : (t : TermId) (q : ProtoId) → x.requirement ≡ Conf t q → q.rank < bound

abbrev pub HaveRanksBelow : ℕ → List Place → Type 0
HaveRanksBelow bound places = (k : ℕ) (x : Place) → slice_get places k ≡ Some x → HasRanksBelow bound x

-- The requirement at the place is kept, its protocol is marked, and by it something conforms to Q.
pub record LeadsTo (x : Place) (kept : Bool) (marks : List Bool) (q : ProtoId) : Type 0 where
  pub is_kept : kept ≡ true
  pub own : IsMarked marks x.proto
  pub subject : TermId
  pub says : x.requirement ≡ Conf subject q

-- That to which it leads is marked.
abbrev pub IsClosedAt : Place → Bool → List Bool → Type 0
IsClosedAt x kept marks = (q : ProtoId) → LeadsTo x kept marks q → IsMarked marks q

-- One to which it leads is marked, which was not.
pub record IsMarkedBy (x : Place) (kept : Bool) (old new : List Bool) : Type 0 where
  pub proto : ProtoId
  pub leads : LeadsTo x kept old proto
  pub unmarked : slice_get old proto.rank ≡ Some false
  pub marks : new ≡ slice_set old proto.rank true

-- ---- all places

-- From this place on that to which a requirement leads is marked.
abbrev pub AreClosedFrom : List Place → List Bool → List Bool → ℕ → Type 0
AreClosedFrom places flags marks from = (k : ℕ) (x : Place) (kept : Bool) → from ≤ k → slice_get places k ≡ Some x
    → slice_get flags k ≡ Some kept → IsClosedAt x kept marks

-- Going from the last place to this one the marks became these: more of them, and where none was added they are closed.
pub record HasPassed (places : List Place) (flags : List Bool) (from : ℕ) (grew : Bool) (old new : List Bool) : Type 0 where
  pub count : length new ≡ length old
  pub stay : (q : ProtoId) → IsMarked old q → IsMarked new q
  pub reachable : (terms : List Term) (starts : List Bool) → AreReachable (kept_at terms places flags) starts old
      → AreReachable (kept_at terms places flags) starts new
  pub closed : grew ≡ false → AreClosedFrom places flags new from
  pub fewer : grew ≡ true → unset new < unset old
  pub no_more : unset new ≤ unset old

-- the flags of those that are kept and whose protocols are marked
abbrev pub marked : List Place → List Bool → List Bool → List Bool
marked [] flags marks = []
marked (x ∷ places) [] marks = []
marked (x ∷ places) (b ∷ flags) marks = (b && slice_index_or marks x.proto.rank false) ∷ marked places flags marks
