-- Type parameters and requirements of a text.
use Rattle.std.specs.Prelude.{◌<◌, length}
use Rattle.swreq_param.specs.declared.ids.Step.{Step}
use Rattle.swreq_param.specs.declared.ids.Step.TheVariants.{Bound, Name}
use Rattle.swreq_param.specs.Terms.{Term}
use Rattle.swreq_param.specs.Terms.Term.{Generic, Member}
use Rattle.swreq_lexicon.specs.swreq_derive.Derivation.{TermRequirement}
use Rattle.swreq_lexicon.specs.swreq_derive.Derivation.TermRequirement.{Conforms, IsAnyObject, Equals}
use Rattle.swreq_lexicon.specs.Views.{LexiconView, IsProtocol, IsName}

module _ (x : LexiconView) where
  -- The name or the associated type is of the text.
  abbrev pub IsStepOf : Step → Type 0
  IsStepOf (Name a) = IsName x a
  IsStepOf (Bound d) = d.rank < length x.associated

  -- The members of the type parameter are of the text.
  abbrev pub IsTermOf : Term → Type 0
  IsTermOf (Generic g) = Unit {0}
  IsTermOf (Member t s) = IsTermOf t × IsStepOf s

  -- The type parameters and the protocol of the requirement are of the text.
  abbrev pub IsRequirementOf : TermRequirement → Type 0
  IsRequirementOf (Conforms t p) = IsTermOf t × IsProtocol x p
  IsRequirementOf (IsAnyObject t) = IsTermOf t
  IsRequirementOf (Equals t u) = IsTermOf t × IsTermOf u
