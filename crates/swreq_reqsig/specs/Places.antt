-- The requirements of all protocols in one list, as the code keeps them.
use Rattle.std.specs.Prelude.{◌≡◌, ℕ, suc, List, [], ◌∷◌, ◌++◌, Some, slice_get}
use Rattle.swreq_valid.specs.swreq_param.declared.ids.ProtoId.{ProtoId}
use Rattle.swreq_valid.specs.swreq_param.Terms.{Term}
use Rattle.swreq_valid.specs.swreq_derive.declared.requirements.Requirement.{Requirement}
use Rattle.swreq_valid.specs.swreq_derive.Facts.{requirement_of}
use Rattle.swreq_valid.specs.swreq_derive.Kept.{Owned}
use Rattle.swreq_valid.specs.swreq_lexicon.Views.{IsProtocol}
use Rattle.swreq_valid.specs.Plans.{bare}
use Rattle.swreq_valid.specs.swreq_world.Worlds.{IdWorld, requirements_of}
use Rattle.swreq_reqsig.specs.declared.places.Place.{Place}
use Rattle.swreq_reqsig.specs.Families.{own}

-- requirements of P, the first of which has this number
abbrev pub places_from : ProtoId → ℕ → List Requirement → List Place
places_from p n [] = []
places_from p n (r ∷ rs) = record { proto = p; number = n; requirement = r } ∷ places_from p (suc n) rs

-- the requirements of these protocols
abbrev pub places_in : IdWorld → List ProtoId → List Place
places_in w [] = []
places_in w (p ∷ ps) = places_from p 1 (bare (requirements_of w p)) ++ places_in w ps

-- the requirements of all protocols, protocols and requirements in written order
abbrev pub all_places : IdWorld → List Place
all_places w = places_in w w.lexicon.written_order

-- The protocol is of the text, and it has the requirement with this number.
pub record IsPlaceIn (w : IdWorld) (x : Place) : Type 0 where
  pub proto : IsProtocol w.lexicon x.proto
  pub before : ℕ
  pub number : x.number ≡ suc before
  pub requirement : slice_get (bare (requirements_of w x.proto)) before ≡ Some x.requirement

-- what stands there
abbrev pub owned_at : List Term → Place → Owned
owned_at terms x = own x.proto (requirement_of terms x.requirement)
