-- What is made of the machines of a text, and of which signatures the minimised list is wanted.
use Rattle.std.specs.Prelude.{◌≡◌, ◌↔◌, ℕ, ◌<◌, Bool, true, false, List, Vec, Option, Some, None, Contains, length, get_or, nat_eq, slice_get}
use Rattle.std.specs.List.{list_any}
use Rattle.std.specs.declared.alloc.Global.{Global}
use Rattle.swreq_machine.specs.swreq_lowering.declared.ids.FuncId.{FuncId}
use Rattle.swreq_machine.specs.swreq_lowering.declared.ids.Asks.{Asks}
use Rattle.swreq_machine.specs.swreq_lowering.declared.ids.Asks.TheVariants as ids
use Rattle.swreq_machine.specs.swreq_lowering.declared.ids.Query.{Query}
use Rattle.swreq_machine.specs.swreq_world.Worlds.{IdWorld}
use Rattle.swreq_check.specs.declared.content.Content.{Content}
use Rattle.swreq_check.specs.declared.content.Made.{Made}
use Rattle.swreq_check.specs.declared.content.Made.TheVariants.{Lines, Lists, Nothing, Systems}
use Rattle.swreq_check.specs.Contents.{makes}

-- ---- what machines make

-- the signature by whose machine this is answered, which is asked of it; a minimised list is answered by none
abbrev pub machine_where : Asks → FuncId → Option FuncId
machine_where ids.Signature f = None
machine_where (ids.Reduced t) f = Some f
machine_where (ids.Requirement r) f = Some f

-- and the one by whose machine a query is answered
abbrev pub machine_asked : Query → Option FuncId
machine_asked q = machine_where q.asks q.f

abbrev pub machine_asked_at : Option Query → Option FuncId
machine_asked_at (Some q) = machine_asked q
machine_asked_at None = None

module _ (w : IdWorld) where
  -- how many places machines fill where this is made
  abbrev pub places_of : Made → ℕ
  places_of Lines = length w.queries
  places_of Systems = length w.signatures
  places_of Lists = 0
  places_of Nothing = 0

  -- the signature whose machine makes what stands at this place, if one does
  abbrev pub made_by : Made → ℕ → Option FuncId
  made_by Lines k = machine_asked_at (slice_get w.queries k)
  made_by Systems k = Some (record { place = k })
  made_by Lists k = None
  made_by Nothing k = None

  -- how many pieces of this content have places that machines fill
  abbrev pub count_of : Content → ℕ
  count_of c = places_of (makes c)

  -- the signature whose machine makes the piece at this place, if one does
  abbrev pub maker : Content → ℕ → Option FuncId
  maker c = made_by (makes c)

-- Of each of the first `count` signatures, these are the places before the last one whose pieces its machine makes.
pub record ArePlaces (made_by : ℕ → Option FuncId) (count last : ℕ) (places : List (Vec ℕ Global)) : Type 0 where
  pub counted : length places ≡ count
  pub each : (f : FuncId) (d : Vec ℕ Global) (k : ℕ) → f.place < count
      → Contains (get_or places f.place d).items k ↔ ((k < last) × (made_by k ≡ Some f))

-- Of each signature, these are the places of the pieces of this content that its machine makes.
abbrev pub ArePlacesFor : IdWorld → Content → List (Vec ℕ Global) → Type 0
ArePlacesFor w c = ArePlaces (maker w c) (length w.signatures) (count_of w c)

-- ---- minimised lists

-- the signature of which this is asked, where it is its minimised list
abbrev pub list_where : Asks → FuncId → Option FuncId
list_where ids.Signature f = Some f
list_where (ids.Reduced t) f = None
list_where (ids.Requirement r) f = None

-- the signature for whose minimised list a query asks
abbrev pub list_asked : Query → Option FuncId
list_asked q = list_where q.asks q.f

-- the signature is the one at this place
abbrev pub is_at : ℕ → Option FuncId → Bool
is_at k (Some f) = nat_eq f.place k
is_at k None = false

-- some of these queries asks for the minimised list of the signature at this place
abbrev pub is_list_asked : List Query → ℕ → Bool
is_list_asked qs k = list_any (λ (q : Query). is_at k (list_asked q)) qs

-- the minimised list of the signature at this place is made: of each for which a query asks, of each, or of none
abbrev pub is_list_made : Made → List Query → ℕ → Bool
is_list_made Lines qs k = is_list_asked qs k
is_list_made Lists qs k = true
is_list_made Systems qs k = false
is_list_made Nothing qs k = false

-- and it is wanted for this content
abbrev pub wants_list : Content → List Query → ℕ → Bool
wants_list c = is_list_made (makes c)

-- These are `count` flags, one of each place, set where it is wanted.
pub record AreFlags (wants : ℕ → Bool) (count : ℕ) (flags : List Bool) : Type 0 where
  pub counted : length flags ≡ count
  pub set : (k : ℕ) → k < count → get_or flags k false ≡ wants k

-- Of each signature, this is whether its minimised list is wanted for this content.
abbrev pub AreFlagsFor : IdWorld → Content → List Bool → Type 0
AreFlagsFor w c = AreFlags (wants_list c w.queries) (length w.signatures)
