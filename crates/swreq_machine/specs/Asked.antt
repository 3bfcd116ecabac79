-- What is asked of a machine.
use Rattle.std.specs.Prelude.{◌+◌, ◌*◌, ◌≤◌, ℕ, List}
use Rattle.swreq_valid.specs.swreq_param.declared.ids.ParamId.{ParamId}
use Rattle.swreq_valid.specs.swreq_param.declared.ids.Step.{Step}
use Rattle.swreq_valid.specs.swreq_param.declared.ids.TermId.{TermId}
use Rattle.swreq_valid.specs.swreq_param.Terms.{Term, member_count}
use Rattle.swreq_valid.specs.swreq_derive.Derivation.{Derivable, TermRequirement, TermStatement}
use Rattle.swreq_valid.specs.swreq_derive.Derivation.Source.{Written}
use Rattle.swreq_valid.specs.swreq_derive.Facts.{generic_params}
use Rattle.swreq_map.specs.swreq_word.declared.symbols.Symbol.{Symbol}
use Rattle.swreq_map.specs.swreq_word.Least.{IsLeast}
use Rattle.swreq_valid.specs.swreq_derive.Reduced.{IsReducedTypeOf}
use Rattle.swreq_valid.specs.swreq_correspondence.Equations.{AreCongruent}
use Rattle.swreq_valid.specs.swreq_correspondence.Shown.{ShowsValid}
use Rattle.swreq_valid.specs.swreq_correspondence.Symbols.{Word, word_of}
use Rattle.swreq_valid.specs.swreq_symbols.Meaning.{facts_of, symbols_of}
use Rattle.swreq_valid.specs.swreq_symbols.Overs.{source_over}
use Rattle.swreq_valid.specs.swreq_symbols.Texts.{IsTypeOfText, term_of}
use Rattle.swreq_valid.specs.swreq_symbols.declared.over.Over.TheVariants.{Signature}
use Rattle.swreq_valid.specs.swreq_symbols.declared.text.Text.{Text}
use Rattle.swreq_map.specs.Properties.{Vanishes}
use Rattle.swreq_valid.specs.swreq_symbols.Vanishing.{IsLeastBy, Links}
use Rattle.swreq_valid.specs.swreq_world.Worlds.{TextWorld}
use Rattle.swreq_machine.specs.Machines.{MachineView}
use Rattle.swreq_valid.specs.Rounds.{last_rules}

-- what contracts see of a scratch: its room, and the head, the steps and the word that a call has left
pub record ScratchView : Type 0 where
  pub room : ℕ
  pub head : ParamId
  pub steps : List Step
  pub word : List Symbol

-- The type parameter is of the text, and the scratch has room for it: for four times as many symbols as it has members, and eight.
pub record HasRoomFor (text : Text) (s : ScratchView) (t : TermId) : Type 0 where
  pub of_text : IsTypeOfText text t
  pub room : 4 * (member_count (term_of text t) + 2) ≤ s.room

-- The statement is derivable from the list with the generic parameters of the machine.
abbrev pub IsDerivable : TextWorld → MachineView → List TermRequirement → TermStatement → Type 0
IsDerivable w m list st = Derivable (facts_of w) (Written (generic_params m.params) list) st

-- The rules of the machine show that T is valid.
abbrev pub IsShownBy : TextWorld → MachineView → Term → Type 0
IsShownBy w m t = ShowsValid (symbols_of w.lexicon) (facts_of w) (source_over (Signature m.params)) (Links (last_rules m.rounds)) t

-- the word of T
abbrev pub word_in : TextWorld → MachineView → Term → Word
word_in w m t = word_of (symbols_of w.lexicon) (source_over (Signature m.params)) t

-- The word is the least that the rules link to the word of T.
abbrev pub IsLeastWord : TextWorld → MachineView → Term → Word → Type 0
IsLeastWord w m t u = IsLeastBy (last_rules m.rounds) u × Links (last_rules m.rounds) (word_in w m t) u

-- The rules show that T is valid, and the symbol vanishes after its word.
abbrev pub IsBehind : TextWorld → MachineView → Term → Symbol → Type 0
IsBehind w m t x = IsShownBy w m t × Vanishes (last_rules m.rounds) (word_in w m t) x

-- R is the reduced type of T, from the list.
abbrev pub IsReducedIn : TextWorld → MachineView → List TermRequirement → Term → Term → Type 0
IsReducedIn w m list t r = IsReducedTypeOf (facts_of w) (Written (generic_params m.params) list) t r

-- The word is the least that is congruent to the word of T.
abbrev pub IsLeastOf : TextWorld → MachineView → List TermRequirement → Term → Word → Type 0
IsLeastOf w m list t u =
    IsLeast (AreCongruent (symbols_of w.lexicon) (facts_of w) (Written (generic_params m.params) list)) u
    × AreCongruent (symbols_of w.lexicon) (facts_of w) (Written (generic_params m.params) list)
    (word_of (symbols_of w.lexicon) (Written (generic_params m.params) list) t) u
