-- What a congruence of words says of type parameters and of requirements.
use Rattle.std.specs.Prelude.{[], ◌∷◌}
use Rattle.swreq_derive.specs.swreq_param.declared.ids.AssocId.{AssocId}
use Rattle.swreq_derive.specs.swreq_param.declared.ids.NameId.{NameId}
use Rattle.swreq_derive.specs.swreq_param.declared.ids.ProtoId.{ProtoId}
use Rattle.swreq_derive.specs.swreq_param.declared.ids.Step.TheVariants.{Bound, Name}
use Rattle.swreq_derive.specs.swreq_param.Terms.{Term}
use Rattle.swreq_derive.specs.swreq_param.Terms.Term.{Generic, Member}
use Rattle.swreq_word.specs.declared.symbols.Symbol.TheVariants.{Proto as ProtoSymbol, Layout as LayoutSymbol}
use Rattle.swreq_derive.specs.Derivation.{TermRequirement, TermStatement, TermFacts, Source, Declares, HasParam}
use Rattle.swreq_derive.specs.Derivation.TermRequirement.{Conforms, IsAnyObject, Equals}
use Rattle.swreq_derive.specs.Derivation.TermStatement.{IsValid, Requires}
use Rattle.swreq_correspondence.specs.Symbols.{Word, Symbols, IsOfText, spell, word_of}

-- The congruence shows that t conforms to p: the word of t with `[P]` after it is congruent to the word of t.
abbrev pub ShowsConformance : Symbols → Source → (Word → Word → Type 0) → Term → ProtoId → Type 0
ShowsConformance m s C t p = C (spell m s t (ProtoSymbol p.rank ∷ [])) (word_of m s t)

-- The congruence shows that t is valid: a generic parameter of the source is valid, and so is a member of a valid type parameter that
-- conforms to a protocol which declares the name, or for a bound member to its own protocol.
abbrev pub ShowsValid : Symbols → TermFacts → Source → (Word → Word → Type 0) → Term → Type 0
ShowsValid m f s C (Generic g) = HasParam s g
ShowsValid m f s C (Member t (Name a)) =
    ShowsValid m f s C t × ((p : ProtoId) × (d : AssocId) × Declares f p a d × ShowsConformance m s C t p)
ShowsValid m f s C (Member t (Bound d)) =
    ShowsValid m f s C t × ((p : ProtoId) × (a : NameId) × Declares f p a d × ShowsConformance m s C t p)

-- The congruence shows that the type parameters of a requirement are valid.
abbrev pub ShowsUsable : Symbols → TermFacts → Source → (Word → Word → Type 0) → TermRequirement → Type 0
ShowsUsable m f s C (Conforms t p) = ShowsValid m f s C t
ShowsUsable m f s C (IsAnyObject t) = ShowsValid m f s C t
ShowsUsable m f s C (Equals t u) = ShowsValid m f s C t × ShowsValid m f s C u

-- What a derived statement says of words: what it says of the words alone, whatever follows them.
abbrev pub Shows : Symbols → TermFacts → Source → (Word → Word → Type 0) → TermStatement → Type 0
Shows m f s C (IsValid t) = ShowsValid m f s C t
Shows m f s C (Requires (Conforms t p)) =
    IsOfText m p × ShowsValid m f s C t × ((y : Word) → C (spell m s t (ProtoSymbol p.rank ∷ y)) (spell m s t y))
Shows m f s C (Requires (IsAnyObject t)) = ShowsValid m f s C t × ((y : Word) → C (spell m s t (LayoutSymbol ∷ y)) (spell m s t y))
Shows m f s C (Requires (Equals t u)) =
    ShowsValid m f s C t × ShowsValid m f s C u × ((y : Word) → C (spell m s t y) (spell m s u y))
