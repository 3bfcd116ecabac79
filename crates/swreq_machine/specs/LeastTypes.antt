-- The type of a word, as rules tell it.
use Rattle.std.specs.Prelude.{◌≡◌, ℕ, List, ◌∷◌, ◌++◌}
use Rattle.swreq_valid.specs.swreq_param.declared.ids.Step.TheVariants.{Bound, Name}
use Rattle.swreq_valid.specs.swreq_param.Terms.{Term}
use Rattle.swreq_valid.specs.swreq_param.Terms.Term.{Generic, Member}
use Rattle.swreq_map.specs.swreq_word.declared.symbols.Symbol.TheVariants.{Member as MemberSymbol, Param}
use Rattle.swreq_map.specs.swreq_rule.declared.rules.Rule.{Rule}
use Rattle.swreq_valid.specs.swreq_lexicon.Views.{LexiconView}
use Rattle.swreq_valid.specs.swreq_correspondence.Symbols.{IsRank, Word, name_of}
use Rattle.swreq_valid.specs.swreq_symbols.Meaning.{symbols_of}
use Rattle.swreq_valid.specs.swreq_symbols.Vanishing.{IsFirstBehind}

-- The word is a word of type T and then `rest`. The word of type T is a generic parameter, and a member symbol for each member, which is
-- the bound member with the first associated type of that name whose protocol vanishes after the word before it.
abbrev pub BeginsBy : LexiconView → List Rule → Term → Word → Word → Type 0
BeginsBy x rules (Generic g) rest u = u ≡ Param g.depth g.index ∷ rest
BeginsBy x rules (Member t (Bound d)) rest u =
    (k : ℕ) × (front : Word) × (u ≡ front ++ (MemberSymbol k ∷ rest)) × IsRank (symbols_of x) k
    × IsFirstBehind x rules front (name_of (symbols_of x) k) d × BeginsBy x rules t (MemberSymbol k ∷ rest) u
BeginsBy x rules (Member t (Name a)) rest u = ⊥
