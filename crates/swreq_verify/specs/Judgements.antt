-- What is said of the derivation under a query.
use Rattle.std.specs.Prelude.{◌≡◌, ◌≢◌, ◌⊎◌, ℕ, List, [], ◌∷◌, ◌++◌, codes}
use Rattle.swreq_world.specs.swreq_derive.Derivation.{TermRequirement, TermStatement}
use Rattle.swreq_world.specs.swreq_derive.Derivation.TermStatement.{Requires}
use Rattle.swreq_world.specs.swreq_derive.Facts.{generic_params}
use Rattle.swreq_world.specs.swreq_derive.Instances.{TermLine, IsDerivation, IsFirstBad}
use Rattle.swreq_world.specs.swreq_lowering.declared.ids.FuncId.{FuncId}
use Rattle.swreq_world.specs.swreq_lowering.Queries.{TermQuery}
use Rattle.swreq_world.specs.swreq_lowering.Queries.TermAsks.{AsksRequirement}
use Rattle.swreq_world.specs.FactsAt.{facts_of, written_list}
use Rattle.swreq_world.specs.Worlds.{TextWorld, signature_at}
use Rattle.swreq_verify.specs.declared.judging.Judgement.{Judgement}
use Rattle.swreq_verify.specs.declared.judging.Judgement.TheVariants.{Skipped, BadLine, Derived, NotThis}
use Rattle.swreq_verify.specs.SecondParts.{TermSection}

-- ---- what is to be derived

-- the heading over a derivation that is looked at
abbrev pub yes : List ℕ
yes = codes "yes"

-- The section is to derive the requirement: the query asks it, and the heading is `yes`.
pub record IsToDerive (q : TermQuery) (s : TermSection) (r : TermRequirement) : Type 0 where
  pub asks : q.asks ≡ AsksRequirement r
  pub heading : s.heading ≡ yes

-- There is a last line, and this is its statement.
abbrev pub EndsIn : List TermLine → TermStatement → Type 0
EndsIn ls st = (before : List TermLine) × (last : TermLine) × (ls ≡ before ++ (last ∷ [])) × (last.statement ≡ st)

-- ---- judgements

module _ (w : TextWorld) where
  -- Each line is an instance of its rule over the lines before it and over the written list of the signature.
  abbrev pub IsDerivationFrom : FuncId → List TermLine → Type 0
  IsDerivationFrom f ls = IsDerivation (facts_of w) (generic_params (signature_at w f).params) (written_list (signature_at w f)) ls

  -- The line with this number is the first that is none.
  abbrev pub IsFirstBadFrom : FuncId → List TermLine → ℕ → Type 0
  IsFirstBadFrom f ls n = IsFirstBad (facts_of w) (generic_params (signature_at w f).params) (written_list (signature_at w f)) ls n

  -- A section is skipped where the query asks for no requirement, or the heading is not `yes`. Else a bad line is named, the first one; and
  -- where there is none, the derivation ends in the requirement, or not.
  abbrev pub IsJudged : TermQuery → TermSection → Judgement → Type 0
  IsJudged q s Skipped = ((r : TermRequirement) → q.asks ≢ AsksRequirement r) ⊎ (s.heading ≢ yes)
  IsJudged q s (BadLine n) = (r : TermRequirement) × IsToDerive q s r × IsFirstBadFrom q.f s.derivation n
  IsJudged q s Derived = (r : TermRequirement) × IsToDerive q s r × IsDerivationFrom q.f s.derivation × EndsIn s.derivation (Requires r)
  IsJudged q s NotThis =
      (r : TermRequirement) × IsToDerive q s r × IsDerivationFrom q.f s.derivation × (EndsIn s.derivation (Requires r) → ⊥)
