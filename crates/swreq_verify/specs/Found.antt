-- What is found of lines that are to derive a requirement.
use Rattle.std.specs.Prelude.{List}
use Rattle.swreq_world.specs.swreq_derive.Derivation.{TermRequirement}
use Rattle.swreq_world.specs.swreq_derive.Derivation.TermStatement.{Requires}
use Rattle.swreq_world.specs.swreq_derive.Instances.{TermLine}
use Rattle.swreq_world.specs.swreq_lowering.declared.ids.FuncId.{FuncId}
use Rattle.swreq_world.specs.Worlds.{TextWorld}
use Rattle.swreq_verify.specs.declared.judging.Judgement.{Judgement}
use Rattle.swreq_verify.specs.declared.judging.Judgement.TheVariants.{Skipped, BadLine, Derived, NotThis}
use Rattle.swreq_verify.specs.Judgements.{EndsIn, IsDerivationFrom, IsFirstBadFrom}

-- This is said of lines that are to derive the requirement from the written list of the signature.
abbrev pub IsFound : TextWorld → FuncId → TermRequirement → List TermLine → Judgement → Type 0
IsFound w f r ls Skipped = ⊥
IsFound w f r ls (BadLine n) = IsFirstBadFrom w f ls n
IsFound w f r ls Derived = IsDerivationFrom w f ls × EndsIn ls (Requires r)
IsFound w f r ls NotThis = IsDerivationFrom w f ls × (EndsIn ls (Requires r) → ⊥)
