-- Over what the given path is sought, and how far the search is.
use Rattle.std.specs.Prelude.{◌≡◌, ℕ, ◌<◌, ◌^◌, List, [], ◌∷◌, length}
use Rattle.swreq_machine.specs.swreq_param.declared.ids.ParamId.{ParamId}
use Rattle.swreq_machine.specs.swreq_derive.declared.requirements.Requirement.{Requirement}
use Rattle.swreq_machine.specs.swreq_derive.Derivation.{Derivable, Source, TermFacts, TermRequirement}
use Rattle.swreq_machine.specs.swreq_derive.Derivation.Source.{Written}
use Rattle.swreq_machine.specs.swreq_derive.Derivation.TermRequirement.{Conforms}
use Rattle.swreq_machine.specs.swreq_derive.Derivation.TermStatement.{Requires}
use Rattle.swreq_machine.specs.swreq_derive.Facts.{generic_params}
use Rattle.swreq_machine.specs.swreq_derive.Paths.{IsGivenPath}
use Rattle.swreq_machine.specs.swreq_derive.WellFormed.{AreProtocolsWellFormed, IsListWellFormed}
use Rattle.swreq_machine.specs.swreq_lexicon.Views.{IsProtocol}
use Rattle.swreq_machine.specs.swreq_lowering.declared.ids.FuncId.{FuncId}
use Rattle.swreq_machine.specs.swreq_world.FactsAt.{facts_of, source_of, written_list}
use Rattle.swreq_machine.specs.swreq_world.Worlds.{IdWorld, TextWorld, requirements_of, signature_at}
use Rattle.swreq_machine.specs.swreq_complete.Complete.{IsComplete}
use Rattle.swreq_machine.specs.swreq_symbols.declared.text.Text.{Text}
use Rattle.swreq_machine.specs.swreq_symbols.Texts.{term_of, world_of}
use Rattle.swreq_machine.specs.swreq_symbols.Vanishing.{IsLeastBy}
use Rattle.swreq_machine.specs.Asked.{IsLeastWord}
use Rattle.swreq_machine.specs.Machines.{IsMachineOf, MachineView}
use Rattle.swreq_machine.specs.swreq_valid.Plans.{AreRequirementsOfText, bare, listed}
use Rattle.swreq_machine.specs.swreq_valid.Rounds.{last_rules}
use Rattle.swreq_confpath.specs.declared.path.ConfPath.{ConfPath}
use Rattle.swreq_confpath.specs.declared.places.Place.{Place}
use Rattle.swreq_confpath.specs.declared.places.Place.TheVariants as places
use Rattle.swreq_confpath.specs.declared.sought.Sought.{Sought}
use Rattle.swreq_confpath.specs.Parting.{AllSpareOthers, PartsForGood}
use Rattle.swreq_confpath.specs.Routes.{TermPlace}
use Rattle.swreq_confpath.specs.Routes.TermPlace.{Start, Conformance}
use Rattle.swreq_confpath.specs.Spots.{Spot, word_at}
use Rattle.swreq_confpath.specs.Tried.{TermSpot, AreReady, AreTriedUpTo}

-- The signature is of the text, its list and the protocols are well formed, and this is its machine.
pub record IsMachineFor (text : Text) (f : FuncId) (m : MachineView) : Type 0 where
  pub signature : f.place < length text.world.now.signatures
  pub protocols : AreProtocolsWellFormed (facts_of (world_of text))
  pub list : IsListWellFormed (facts_of (world_of text)) (source_of (signature_at (world_of text) f))
  pub machine : IsMachineOf (world_of text) (written_list (signature_at (world_of text) f)) m
  pub params : m.params ≡ (signature_at (world_of text) f).params

-- ---- over what is sought

abbrev pub world_in : Sought → TextWorld
world_in s = world_of s.text

abbrev pub facts_in : Sought → TermFacts
facts_in s = facts_of (world_in s)

abbrev pub params_in : Sought → List ParamId
params_in s = generic_params s.machine.now.params

abbrev pub list_in : Sought → List TermRequirement
list_in s = listed s.text.table.now s.list.now

abbrev pub source_in : Sought → Source
source_in s = Written (params_in s) (list_in s)

-- the conformance that is sought
abbrev pub sought_in : Sought → TermPlace
sought_in s = Conformance (term_of s.text s.subject) s.proto

-- The text and the list are well formed, the machine is that of the list, its rules spare all but the symbols that they may change, numbers
-- of 32 bits count all requirements, and the conformance that is sought is derivable.
pub record IsKnown (s : Sought) : Type 0 where
  pub list : AreRequirementsOfText s.text s.list.now
  pub machine : IsMachineOf (world_in s) (list_in s) s.machine.now
  pub complete : IsComplete (last_rules s.machine.now.rounds)
  pub others : AllSpareOthers (last_rules s.machine.now.rounds) s.changed.now
  pub protocols : AreProtocolsWellFormed (facts_in s)
  pub well_formed : IsListWellFormed (facts_in s) (source_in s)
  pub few : length s.list.now < 2 ^ 32
  pub derivable : Derivable (facts_in s) (source_in s) (Requires (Conforms (term_of s.text s.subject) s.proto))

-- ---- places

-- The protocol of the place is of the text.
abbrev pub IsPlaceIn : IdWorld → Place → Type 0
IsPlaceIn w places.Start = Unit {0}
IsPlaceIn w (places.Conformance u q) = IsProtocol w.lexicon q

-- the list from which the next number is
abbrev pub required_at : IdWorld → List Requirement → Place → List Requirement
required_at w list places.Start = list
required_at w list (places.Conformance u q) = bare (requirements_of w q)

-- A place of the code stands for one over type parameters: they are of one protocol, and the word is the least of the subject's class.
abbrev pub StandsFor : Sought → Place → TermPlace → Type 0
StandsFor s places.Start Start = Unit {0}
StandsFor s places.Start (Conformance t p) = ⊥
StandsFor s (places.Conformance u q) Start = ⊥
StandsFor s (places.Conformance u q) (Conformance t p) = (q ≡ p) × IsLeastWord (world_in s) s.machine.now t u

-- what contracts see of a conformance that is sought with its place
pub record AimView : Type 0 where
  pub sought : Sought
  pub target : Place

-- All is known that the search rests on, and the target is the place of the conformance.
pub record IsAim (a : AimView) : Type 0 where
  pub known : IsKnown a.sought
  pub target : StandsFor a.sought a.target (sought_in a.sought)

-- The word of the place is the least of its class.
abbrev pub HasLeastWord : Sought → Place → Type 0
HasLeastWord s p = IsLeastBy (last_rules s.machine.now.rounds) (word_at p)

-- The word of the place has parted for good from that of the target.
abbrev pub HasParted : Sought → (target place : Place) → Type 0
HasParted s target place = PartsForGood (last_rules s.machine.now.rounds) (word_at target) (word_at place)

-- ---- how far the search is

-- The spots have the numbers of these, and stand for their places, one by one.
abbrev pub AreSpotsOf : Sought → List TermSpot → List Spot → Type 0
AreSpotsOf s [] [] = Unit {0}
AreSpotsOf s [] (x ∷ xs) = ⊥
AreSpotsOf s (a ∷ bs) [] = ⊥
AreSpotsOf s (a ∷ bs) (x ∷ xs) = (x.1 ≡ a.numbers) × IsPlaceIn s.text.world.now x.0 × StandsFor s x.0 a.place × AreSpotsOf s bs xs

-- Of these, all that goes on from the first `next` ones has been tried.
pub record IsSearch (s : Sought) (spots : List Spot) (next : ℕ) : Type 0 where
  pub tried : List TermSpot
  pub stand : AreSpotsOf s tried spots
  pub ready : AreReady (facts_in s) (params_in s) (list_in s) (sought_in s) tried next

-- And so has what goes on from the next one, which leads to this place, by the first `count` requirements.
pub record IsSearchAt (s : Sought) (spots : List Spot) (next : ℕ) (from : Place) (count : ℕ) : Type 0 where
  pub tried : List TermSpot
  pub stand : AreSpotsOf s tried spots
  pub at : TermSpot
  pub stands_at : StandsFor s from at.place
  pub up_to : AreTriedUpTo (facts_in s) (params_in s) (list_in s) (sought_in s) tried next at count

-- the path that is given for what is sought
abbrev pub IsGiven : Sought → ConfPath → Type 0
IsGiven s path = IsGivenPath (facts_in s) (params_in s) (list_in s) path.first path.steps (term_of s.text s.subject) s.proto
