-- Which round uses a requirement first, and so which rules show its type parameters valid.
use Rattle.std.specs.Prelude.{◌≡◌, ℕ, ◌+◌, ◌-◌, ◌<◌, ◌≤◌, true, List, Some, length, slice_get}
use Rattle.swreq_machine.specs.{swreq_correspondence.Symbols.{Word}, swreq_lexicon.declared.pair.ProtocolName.{ProtocolName}}
use Rattle.swreq_machine.specs.swreq_valid.Rounds.{RoundView}
use Rattle.swreq_explain.specs.declared.numbered.Numbered.{Numbered}

-- What the systems of rounds are made from: how many rules the base has, which is the system before the first round's, the member names
-- and the basic equations, the written requirements that the rounds may use, the rounds, and the place of the first round's system.
pub record Origin : Type 0 where
  pub base : ℕ
  pub members : List ProtocolName
  pub basic : List (Word × Word)
  pub all : List Numbered
  pub rounds : List RoundView
  pub first : ℕ

-- Each round has this many flags.
abbrev pub HaveFlags : ℕ → List RoundView → Type 0
HaveFlags count rounds = (k : ℕ) (round : RoundView) → slice_get rounds k ≡ Some round → length round.used ≡ count

-- The round with this number, counted from 0, uses the requirement at this place.
abbrev pub Uses : List RoundView → ℕ → ℕ → Type 0
Uses rounds k place = (round : RoundView) × (slice_get rounds k ≡ Some round) × (slice_get round.used place ≡ Some true)

-- The round k is the first that uses the requirement at this place.
pub record UsesFirst (rounds : List RoundView) (k place : ℕ) : Type 0 where
  pub uses : Uses rounds k place
  pub none_before : (i : ℕ) → i < k → Uses rounds i place → ⊥

-- The rules of this system show the requirement that the round k uses. It is the system of the round before the first round that uses the
-- requirement.
pub record IsShownBy (all : List Numbered) (rounds : List RoundView) (first k : ℕ) (x : Numbered) (system : ℕ) : Type 0 where
  pub place : ℕ
  pub there : slice_get all place ≡ Some x
  pub round : ℕ
  pub within : round ≤ k
  pub first_use : UsesFirst rounds round place
  pub system_is : system ≡ first + round - 1
