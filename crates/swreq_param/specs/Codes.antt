-- Type parameters have codes, so that a table may be seen as a list of them.
use Rattle.std.specs.Prelude.{◌≡◌, ℕ, zero, suc, List, [], ◌∷◌, refl}
use Rattle.std.specs.Coded.{Coded, code_by, coded×, coded_ℕ, coded_list}
use Rattle.swreq_param.specs.declared.ids.Step.{Step}
use Rattle.swreq_param.specs.declared.ids.Step.TheVariants.{Bound, Name}
use Rattle.swreq_param.specs.Terms.{Term}
use Rattle.swreq_param.specs.Terms.Term.{Generic, Member}
use Rattle.swreq_param.specs.Comparison.{kind, rank}

abbrev pub step_to : Step → ℕ × ℕ
step_to x = (kind x, rank x)

abbrev pub step_from : ℕ × ℕ → Step
step_from (zero, n) = Bound (record { rank = n })
step_from (suc k, n) = Name (record { rank = n })

pub step_back : (x : Step) → step_from (step_to x) ≡ x
step_back (Bound d) = refl
step_back (Name a) = refl

abbrev pub to : Term → (ℕ × ℕ) × List (ℕ × ℕ)
to (Generic g) = ((g.depth, g.index), [])
to (Member t x) = let w = to t in (w.0, step_to x ∷ w.1)

abbrev pub from_steps : ℕ × ℕ → List (ℕ × ℕ) → Term
from_steps g [] = Generic (record { depth = g.0; index = g.1 })
from_steps g (x ∷ xs) = Member (from_steps g xs) (step_from x)

abbrev pub from : (ℕ × ℕ) × List (ℕ × ℕ) → Term
from w = from_steps w.0 w.1

pub back : (t : Term) → from (to t) ≡ t
back (Generic g) = refl
back (Member t x) = λ i. Member (back t i) (step_back x i)

abbrev pub term_code : Coded Term
term_code = code_by ((ℕ × ℕ) × List (ℕ × ℕ)) (coded× (coded× coded_ℕ coded_ℕ) (coded_list (coded× coded_ℕ coded_ℕ))) to from back
