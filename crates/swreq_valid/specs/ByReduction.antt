-- What reduction by rules shows of a type parameter, where they need not be complete.
use Rattle.std.specs.Prelude.{List}
use Rattle.swreq_rounds.specs.swreq_param.declared.ids.AssocId.{AssocId}
use Rattle.swreq_rounds.specs.swreq_param.declared.ids.NameId.{NameId}
use Rattle.swreq_rounds.specs.swreq_param.declared.ids.ProtoId.{ProtoId}
use Rattle.swreq_rounds.specs.swreq_param.declared.ids.Step.{Step}
use Rattle.swreq_rounds.specs.swreq_param.declared.ids.Step.TheVariants.{Bound, Name}
use Rattle.swreq_rounds.specs.swreq_param.Terms.{Term}
use Rattle.swreq_rounds.specs.swreq_derive.Derivation.{TermRequirement}
use Rattle.swreq_complete.specs.swreq_rule.declared.rules.Rule.{Rule}
use Rattle.swreq_complete.specs.Alike.{ReduceAlike}
use Rattle.swreq_rounds.specs.swreq_correspondence.Shown.{ShowsConformance, ShowsUsable, ShowsValid}
use Rattle.swreq_world.specs.swreq_lexicon.Views.{LexiconView}
use Rattle.swreq_symbols.specs.declared.over.Over.{Over}
use Rattle.swreq_symbols.specs.Meaning.{facts_of, symbols_of}
use Rattle.swreq_symbols.specs.Overs.{source_over}
use Rattle.swreq_symbols.specs.Vanishing.{DeclaresType}
use Rattle.swreq_world.specs.Worlds.{TextWorld}

-- Reduction shows that T conforms to P.
abbrev pub ReducesConformance : LexiconView → List Rule → Over → Term → ProtoId → Type 0
ReducesConformance x rules over t p = ShowsConformance (symbols_of x) (source_over over) (ReduceAlike rules) t p

-- d is an associated type A of a protocol to which reduction shows that T conforms.
abbrev pub IsGivenOf : LexiconView → List Rule → Over → Term → NameId → AssocId → Type 0
IsGivenOf x rules over t a d = (p : ProtoId) × DeclaresType x p a d × ReducesConformance x rules over t p

-- An associated type that is given has the name, or is the one that the step names.
abbrev pub HasStepOf : LexiconView → List Rule → Over → Term → Step → Type 0
HasStepOf x rules over t (Name a) = (d : AssocId) × IsGivenOf x rules over t a d
HasStepOf x rules over t (Bound d) = (a : NameId) × IsGivenOf x rules over t a d

-- Reduction shows that T is valid.
abbrev pub ReducesValid : TextWorld → List Rule → Over → Term → Type 0
ReducesValid w rules over t = ShowsValid (symbols_of w.lexicon) (facts_of w) (source_over over) (ReduceAlike rules) t

-- Reduction shows that the type parameters of the requirement are valid.
abbrev pub ReducesUsable : TextWorld → List Rule → Over → TermRequirement → Type 0
ReducesUsable w rules over r = ShowsUsable (symbols_of w.lexicon) (facts_of w) (source_over over) (ReduceAlike rules) r
