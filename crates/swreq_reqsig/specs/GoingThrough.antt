-- Going through the requirements of the protocols: which of them are left.
--
-- The requirements of all protocols stand in one list, protocols and requirements in written order, and a flag for each says whether it is
-- kept. Requirements that are written twice are so told apart.
use Rattle.std.specs.Prelude.{◌≡◌, ◌⊎◌, ℕ, suc, Bool, true, false, List, length, replicate, slice_set}
use Rattle.swreq_valid.specs.swreq_derive.Derivation.{AssociatedType}
use Rattle.swreq_valid.specs.swreq_derive.Kept.{DeriveTheSame, Owned}
use Rattle.swreq_valid.specs.Flags.{chosen}

-- all are kept
abbrev pub all_kept : List Owned → List Bool
all_kept all = replicate (length all) true

-- those that are kept, without the one at this place
abbrev pub without : List Bool → ℕ → List Bool
without flags n = slice_set flags n false

-- For every protocol P the same statements are derivable from [τ_0_0 : P] with the one part of these requirements and with the other.
abbrev pub AreAlike : List AssociatedType → List Owned → List Bool → List Bool → Type 0
AreAlike ds all flags others = DeriveTheSame ds (chosen all flags) (chosen all others)

-- The requirement at the place is left out where the same is derivable without it, and stays where it is not.
abbrev pub IsDecided : List AssociatedType → List Owned → ℕ → List Bool → List Bool → Type 0
IsDecided ds all n flags left =
    (AreAlike ds all (without flags n) flags × (left ≡ without flags n)) ⊎ ((AreAlike ds all (without flags n) flags → ⊥) × (left ≡ flags))

-- These are kept after the requirements from the last to the one at this place are decided. Before the first step all are kept.
pub data AreKept (ds : List AssociatedType) (all : List Owned) : ℕ → List Bool → Type 0 where
  whole : {n : ℕ} {flags : List Bool} → n ≡ length all → flags ≡ all_kept all → AreKept ds all n flags
  further : {n : ℕ} {flags left : List Bool} → AreKept ds all (suc n) flags → IsDecided ds all n flags left → AreKept ds all n left

-- These are kept after all of them are decided.
abbrev pub AreGiven : List AssociatedType → List Owned → List Bool → Type 0
AreGiven ds all flags = AreKept ds all 0 flags
