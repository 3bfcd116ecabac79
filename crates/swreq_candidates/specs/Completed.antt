-- What the ended completions of the protocols and of a list give.
use Rattle.std.specs.Prelude.{List, [], ◌∷◌}
use Rattle.swreq_canonical.specs.swreq_param.declared.ids.ParamId.{ParamId}
use Rattle.swreq_canonical.specs.swreq_derive.Derivation.{TermFacts, TermRequirement}
use Rattle.swreq_canonical.specs.swreq_derive.Derivation.Source.{Written}
use Rattle.swreq_canonical.specs.swreq_word.declared.symbols.Symbol.{Symbol}
use Rattle.swreq_canonical.specs.swreq_word.declared.symbols.Symbol.TheVariants.{Proto as ProtoSymbol, Member as MemberSymbol}
use Rattle.swreq_canonical.specs.swreq_word.Least.{IsLeast}
use Rattle.swreq_canonical.specs.swreq_correspondence.Symbols.{Word, Symbols, IsOfText, IsRank, proto_of, AreSymbolsOf, AreOfText, IsInText}
use Rattle.swreq_canonical.specs.swreq_correspondence.Equations.{Linking, UsableEquation}
use Rattle.swreq_canonical.specs.swreq_correspondence.Types.{AreRanked}
use Rattle.swreq_rounds.specs.Presents.{ProtocolEquation}
use Rattle.swreq_candidates.specs.Blocks.{AreMembersNamed}

-- Each word has a least congruent one, which is told.
abbrev pub HasLeastWords : (Word → Word → Type 0) → Type 0
HasLeastWords E = (w : Word) → (v : Word) × Linking E w v × IsLeast (Linking E) v

-- The symbols, the facts and a list of a text, with the least words under the equations of the protocols, and under those of the list.
pub record IsCompleted (m : Symbols) (f : TermFacts) (params : List ParamId) (list : List TermRequirement) : Type 0 where
  pub symbols : AreSymbolsOf m f
  pub of_text : AreOfText m f
  pub in_text : IsInText m (Written params list)
  pub ranked : AreRanked m f
  pub named : AreMembersNamed m f
  pub protocols : HasLeastWords (ProtocolEquation m f)
  pub of_list : HasLeastWords (UsableEquation m f (Written params list))

-- the symbol stands for a protocol of the text or for a member name of one, or for neither
abbrev pub IsSymbolOfText : Symbols → Symbol → Type 0
IsSymbolOfText m (ProtoSymbol p) = IsOfText m (record { rank = p })
IsSymbolOfText m (MemberSymbol k) = IsRank m k × IsOfText m (proto_of m k)
IsSymbolOfText m _ = Unit {0}

-- so does each symbol of the word
abbrev pub IsWordOfText : Symbols → Word → Type 0
IsWordOfText m [] = Unit {0}
IsWordOfText m (x ∷ w) = IsSymbolOfText m x × IsWordOfText m w
