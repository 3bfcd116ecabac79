-- The answers of queries, by what is derivable.
use Rattle.std.specs.Prelude.{◌≡◌, ◌⊎◌, ◌++◌, codes}
use Rattle.swreq_print.specs.swreq_param.Order.{TermBefore}
use Rattle.swreq_print.specs.swreq_param.Terms.{Term}
use Rattle.swreq_print.specs.swreq_derive.Derivation.{TermRequirement, TermStatement}
use Rattle.swreq_print.specs.swreq_derive.Derivation.TermRequirement.{Conforms, IsAnyObject, Equals}
use Rattle.swreq_print.specs.swreq_derive.Derivation.TermStatement.{IsValid, Requires}
use Rattle.swreq_print.specs.Names.{Text}
use Rattle.swreq_print.specs.Types.{type_text}
use Rattle.swreq_print.specs.swreq_lexicon.Views.{LexiconView}
use Rattle.swreq_print.specs.swreq_lowering.Queries.{TermAsks}
use Rattle.swreq_print.specs.swreq_lowering.Queries.TermAsks.{AsksSignature, AsksReduced, AsksRequirement}

-- ---- what is asked

-- S is a side of the requirement.
abbrev pub IsSideOf : TermRequirement → Term → Type 0
IsSideOf (Conforms t p) s = s ≡ t
IsSideOf (IsAnyObject t) s = s ≡ t
IsSideOf (Equals t u) s = (s ≡ t) ⊎ (s ≡ u)

-- S is a side of what is asked, one of the type parameters that it names.
abbrev pub IsSide : TermAsks → Term → Type 0
IsSide AsksSignature s = ⊥
IsSide (AsksReduced t) s = s ≡ t
IsSide (AsksRequirement r) s = IsSideOf r s

-- ---- answers

-- `invalid`, `yes`, `no`, or a reduced type
pub data Answer : Type 0 where
  Invalid : Answer
  Yes : Answer
  No : Answer
  Reduced : (r : Term) → Answer

module _ (derivable : TermStatement → Type 0) where
  -- Each side is valid.
  abbrev pub HasOnlyValidSides : TermAsks → Type 0
  HasOnlyValidSides asks = (s : Term) → IsSide asks s → derivable (IsValid s)

  -- R is the reduced type of T: [T == R] is derivable, and no U that is derivably equal to T comes before R.
  abbrev pub IsLeastEqual : Term → Term → Type 0
  IsLeastEqual t r = derivable (Requires (Equals t r)) × ((u : Term) → derivable (Requires (Equals t u)) → TermBefore u r → ⊥)

  -- The answer is `invalid` where a side is not valid. Where each is, it is `yes` if the requirement that is asked is derivable, `no` if
  -- it is not, and to a query of a type the reduced type.
  abbrev pub IsAnswer : TermAsks → Answer → Type 0
  IsAnswer asks Invalid = (s : Term) × IsSide asks s × (derivable (IsValid s) → ⊥)
  IsAnswer asks Yes = HasOnlyValidSides asks × ((r : TermRequirement) × (asks ≡ AsksRequirement r) × derivable (Requires r))
  IsAnswer asks No = HasOnlyValidSides asks × ((r : TermRequirement) × (asks ≡ AsksRequirement r) × (derivable (Requires r) → ⊥))
  IsAnswer asks (Reduced u) = HasOnlyValidSides asks × ((t : Term) × (asks ≡ AsksReduced t) × IsLeastEqual t u)

  -- This is the answer where the requirement is asked.
  abbrev pub IsAnswered : TermRequirement → Answer → Type 0
  IsAnswered r a = IsAnswer (AsksRequirement r) a

-- ---- lines

abbrev pub answer_text : LexiconView → Answer → Text
answer_text x Invalid = codes "invalid"
answer_text x Yes = codes "yes"
answer_text x No = codes "no"
answer_text x (Reduced r) = type_text x r

-- the text of the answer, and a line feed
abbrev pub answer_line : LexiconView → Answer → Text
answer_line x a = answer_text x a ++ codes "\n"

-- The line is that of the answer.
abbrev pub IsAnswerLine : LexiconView → (TermStatement → Type 0) → TermAsks → Text → Type 0
IsAnswerLine x derivable asks line = (a : Answer) × IsAnswer derivable asks a × (line ≡ answer_line x a)
