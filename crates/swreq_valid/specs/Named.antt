-- The equation of a member name of a protocol.
use Rattle.std.specs.Prelude.{◌≡◌, ◌⊎◌, ℕ, List, [], ◌∷◌, ◌++◌, Some, Contains, slice_get}
use Rattle.swreq_rounds.specs.swreq_param.declared.ids.NameId.{NameId}
use Rattle.swreq_rounds.specs.swreq_param.declared.ids.ProtoId.{ProtoId}
use Rattle.swreq_world.specs.swreq_lexicon.Lexicons.{pair}
use Rattle.swreq_world.specs.swreq_lexicon.Views.{LexiconView}
use Rattle.swreq_rounds.specs.swreq_correspondence.Symbols.{Word}
use Rattle.swreq_rounds.specs.Given.{named}

-- The equation of [P:A] was put last, where A is a member name of P.
abbrev pub IsNameAdded : LexiconView → ProtoId → NameId → (old new : List (Word × Word)) → Type 0
IsNameAdded x p a old new =
    ((Contains x.symbols (pair p a) → ⊥) × (new ≡ old))
    ⊎ ((k : ℕ) × (slice_get x.symbols k ≡ Some (pair p a)) × (new ≡ old ++ named p (record { proto = p; name = a }) k ∷ []))
