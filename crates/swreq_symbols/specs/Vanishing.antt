-- What rules show of a type parameter, asked of a word that they link to its word.
use Rattle.std.specs.Prelude.{◌≤◌, List, Contains}
use Rattle.swreq_correspondence.specs.swreq_param.declared.ids.AssocId.{AssocId}
use Rattle.swreq_correspondence.specs.swreq_param.declared.ids.NameId.{NameId}
use Rattle.swreq_correspondence.specs.swreq_param.declared.ids.ProtoId.{ProtoId}
use Rattle.swreq_correspondence.specs.swreq_param.declared.ids.Step.{Step}
use Rattle.swreq_correspondence.specs.swreq_param.declared.ids.Step.TheVariants.{Bound, Name}
use Rattle.swreq_correspondence.specs.swreq_word.declared.symbols.Symbol.TheVariants.{Proto}
use Rattle.swreq_correspondence.specs.swreq_word.Least.{IsLeast}
use Rattle.swreq_correspondence.specs.swreq_word.Relations.{Linked}
use Rattle.swreq_complete.specs.swreq_rule.declared.rules.Rule.{Rule}
use Rattle.swreq_complete.specs.swreq_rule.Steps.{Step as RuleStep}
use Rattle.swreq_world.specs.swreq_lexicon.Lexicons.{associated_types}
use Rattle.swreq_world.specs.swreq_lexicon.Views.{LexiconView}
use Rattle.swreq_correspondence.specs.Symbols.{Word}
use Rattle.swreq_map.specs.Properties.{Vanishes}

-- steps by the rules link the words
abbrev pub Links : List Rule → Word → Word → Type 0
Links rules = Linked (RuleStep rules)

-- The word is the least of those that the rules link to it.
abbrev pub IsLeastBy : List Rule → Word → Type 0
IsLeastBy rules = IsLeast (Links rules)

-- P declares A in the text, as the associated type d.
abbrev pub DeclaresType : LexiconView → ProtoId → NameId → AssocId → Type 0
DeclaresType x p a d = Contains (associated_types x.associated) (record { proto = p; name = a; assoc = d })

-- d is an associated type A of a protocol whose symbol vanishes after the word.
abbrev pub IsGivenBehind : LexiconView → List Rule → Word → NameId → AssocId → Type 0
IsGivenBehind x rules w a d = (p : ProtoId) × DeclaresType x p a d × Vanishes rules w (Proto p.rank)

-- d is the first associated type A of a protocol whose symbol vanishes after the word.
pub record IsFirstBehind (x : LexiconView) (rules : List Rule) (w : Word) (a : NameId) (d : AssocId) : Type 0 where
  pub given : IsGivenBehind x rules w a d
  pub first : (e : AssocId) → IsGivenBehind x rules w a e → d.rank ≤ e.rank

-- After the word an associated type with the name is given, or that associated type.
abbrev pub HasStep : LexiconView → List Rule → Word → Step → Type 0
HasStep x rules w (Name a) = (d : AssocId) × IsGivenBehind x rules w a d
HasStep x rules w (Bound d) = (a : NameId) × IsGivenBehind x rules w a d
