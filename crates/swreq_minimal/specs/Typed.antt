-- What the rules of a machine tell of words: their types, and the requirements of rules.
use Rattle.std.specs.Prelude.{◌≡◌, ◌+◌, ◌≤◌, ℕ, List, [], ◌∷◌, ◌++◌, length, Option, MatchOption, Contains}
use Rattle.swreq_machine.specs.swreq_param.declared.ids.AssocId.{AssocId}
use Rattle.swreq_machine.specs.swreq_param.declared.ids.NameId.{NameId}
use Rattle.swreq_machine.specs.swreq_param.declared.ids.Step.TheVariants.{Bound, Name}
use Rattle.swreq_machine.specs.swreq_param.declared.ids.TermId.{TermId}
use Rattle.swreq_machine.specs.swreq_param.Tables.{IsOf, term_at}
use Rattle.swreq_machine.specs.swreq_param.Terms.{Term}
use Rattle.swreq_machine.specs.swreq_param.Terms.Term.{Generic, Member}
use Rattle.swreq_machine.specs.swreq_derive.declared.known.Params.{Params}
use Rattle.swreq_machine.specs.swreq_derive.declared.requirements.Requirement.{Requirement}
use Rattle.swreq_machine.specs.swreq_derive.Derivation.{TermRequirement}
use Rattle.swreq_machine.specs.swreq_derive.Derivation.TermRequirement.{Conforms, IsAnyObject, Equals}
use Rattle.swreq_machine.specs.swreq_derive.Facts.{generic_params, requirement_of}
use Rattle.swreq_homotopy.specs.swreq_word.declared.symbols.Symbol.{Symbol}
use Rattle.swreq_homotopy.specs.swreq_word.declared.symbols.Symbol.TheVariants.{Proto, Member as MemberSymbol, Param, Layout}
use Rattle.swreq_machine.specs.swreq_rule.declared.rules.Rule.{Rule}
use Rattle.swreq_machine.specs.swreq_lexicon.Views.{IsProtocol, LexiconView}
use Rattle.swreq_machine.specs.swreq_correspondence.Symbols.{IsRank, Word, name_of, proto_of}
use Rattle.swreq_candidates.specs.Candidates.{IsNamed}
use Rattle.swreq_machine.specs.swreq_symbols.Known.{IsRequirementIn}
use Rattle.swreq_machine.specs.swreq_symbols.Meaning.{symbols_of}
use Rattle.swreq_machine.specs.swreq_symbols.Vanishing.{IsFirstBehind, IsLeastBy}
use Rattle.swreq_machine.specs.swreq_map.Properties.{Vanishes}

-- The word is the least that the rules link to it, and there is room for it with a symbol after it.
pub record IsTestable (rules : List Rule) (word : Word) (room : ℕ) : Type 0 where
  pub least : IsLeastBy rules word
  pub fits : length word + 1 ≤ room

-- After the word the symbol `[P:A]` stands for the bound member d: `[P]` vanishes there, and d is the first associated type A given there.
abbrev pub IsMemberBehind : LexiconView → List Rule → Word → Symbol → AssocId → Type 0
IsMemberBehind x rules w y d =
    (k : ℕ) × (y ≡ MemberSymbol k) × IsRank (symbols_of x) k × Vanishes rules w (Proto (proto_of (symbols_of x) k).rank)
    × IsFirstBehind x rules w (name_of (symbols_of x) k) d

-- By the rules T is the type of the word: of a generic parameter's symbol that generic parameter, and of a word with a member symbol after
-- it the bound member for which the symbol stands there.
abbrev pub IsTypeBy : LexiconView → List Rule → Params → Word → Term → Type 0
IsTypeBy x rules params u (Generic g) = Contains (generic_params params) g × (u ≡ Param g.depth g.index ∷ [])
IsTypeBy x rules params u (Member t (Bound d)) =
    (front : Word) × (y : Symbol) × (u ≡ front ++ y ∷ []) × IsTypeBy x rules params front t × IsMemberBehind x rules front y d
IsTypeBy x rules params u (Member t (Name a)) = ⊥

-- By the rules V is the subject of a left side: it is the symbol of a generic parameter V, or the symbol of a member or a name after a
-- word,
-- where V is the bound member of the word's type with the first associated type of that name given there.
abbrev pub IsSubjectOf : LexiconView → List Rule → Params → Word → Term → Type 0
IsSubjectOf x rules params l (Generic g) = IsTypeBy x rules params l (Generic g)
IsSubjectOf x rules params l (Member t (Bound d)) =
    (front : Word) × (y : Symbol) × (a : NameId) × (l ≡ front ++ y ∷ []) × IsTypeBy x rules params front t × IsNamed (symbols_of x) y a
    × IsFirstBehind x rules front a d
IsSubjectOf x rules params l (Member t (Name a)) = ⊥

-- By the rules this is the requirement of the rule `l => r`.
abbrev pub IsRequirementOfRule : LexiconView → List Rule → Params → Word → Word → TermRequirement → Type 0
IsRequirementOfRule x rules params l r (Conforms t p) = IsTypeBy x rules params r t × IsProtocol x p × (l ≡ r ++ Proto p.rank ∷ [])
IsRequirementOfRule x rules params l r (IsAnyObject t) = IsTypeBy x rules params r t × (l ≡ r ++ Layout ∷ [])
IsRequirementOfRule x rules params l r (Equals u v) = IsTypeBy x rules params r u × IsSubjectOf x rules params l v × (u ≡ v → ⊥)

-- ---- what the code answers

-- an id of a type parameter of which P holds, or None where there is none
abbrev pub Identifies : (Term → Type 0) → List Term → Option TermId → Type 0
Identifies P terms answer = MatchOption answer ((t : Term) → P t → ⊥) (λ id. IsOf terms id × P (term_at terms id))

-- a requirement of which P holds, with ids of the table and the text, or None where there is none
abbrev pub Finds : (TermRequirement → Type 0) → List Term → LexiconView → Option Requirement → Type 0
Finds P terms x answer = MatchOption answer ((r : TermRequirement) → P r → ⊥) (λ r. IsRequirementIn terms x r × P (requirement_of terms r))
