-- Over what type parameters are read.
use Rattle.std.specs.Prelude.{[], ◌∷◌, Option, Some, None}
use Rattle.swreq_correspondence.specs.swreq_param.declared.ids.ProtoId.{ProtoId}
use Rattle.swreq_correspondence.specs.swreq_derive.Derivation.{Source}
use Rattle.swreq_correspondence.specs.swreq_derive.Derivation.Source.{Written, SelfOf}
use Rattle.swreq_correspondence.specs.swreq_derive.Facts.{generic_params}
use Rattle.swreq_correspondence.specs.Symbols.{Word}
use Rattle.swreq_symbols.specs.declared.over.Over.{Over}
use Rattle.swreq_symbols.specs.declared.over.Over.TheVariants.{Signature, Protocol}
use Rattle.swreq_correspondence.specs.swreq_word.declared.symbols.Symbol.{Symbol}

-- a list with these generic parameters, or [τ_0_0 : P]
abbrev pub source_over : Over → Source
source_over (Signature params) = Written (generic_params params) []
source_over (Protocol p) = SelfOf p

-- Of a protocol words begin with its symbol, and of a list with a generic parameter.
abbrev pub source_by : Option ProtoId → Source
source_by None = Written [] []
source_by (Some p) = SelfOf p

abbrev pub owner_of : Over → Option ProtoId
owner_of (Signature params) = None
owner_of (Protocol p) = Some p

-- one symbol, or none
abbrev pub ending : Option Symbol → Word
ending None = []
ending (Some x) = x ∷ []
