-- Completions that pass a limit before they come to a pair.
use Rattle.std.specs.Prelude.{◌≡◌, Bool, true, false, IsTrue, List, ◌++◌}
use Rattle.std.specs.List.{list_all}
use Rattle.swreq_complete.specs.swreq_word.declared.symbols.Symbol.{Symbol}
use Rattle.swreq_complete.specs.swreq_rule.declared.rules.Birth.{Birth}
use Rattle.swreq_complete.specs.swreq_rule.declared.rules.Birth.TheVariants.{Given, Pair}
use Rattle.swreq_complete.specs.swreq_rule.declared.rules.Rule.{Rule}
use Rattle.swreq_complete.specs.declared.limit.Failed.{Failed}
use Rattle.swreq_complete.specs.declared.limit.Failed.TheVariants.{Limit, Memory}
use Rattle.swreq_complete.specs.declared.limit.Limits.{Limits}
use Rattle.swreq_complete.specs.declared.limit.Which.{Which}
use Rattle.swreq_complete.specs.Limits.{Passes}

-- the first list is a front of the second
abbrev pub IsFront : {A : Type 0} → List A → List A → Type 0
IsFront {A} part whole = (rest : List A) × (whole ≡ part ++ rest)

abbrev pub is_of_equation : Birth → Bool
is_of_equation (Given n) = true
is_of_equation (Pair i j at) = false

-- whether the rule is born of an equation
abbrev pub is_given : Rule → Bool
is_given rule = is_of_equation rule.birth

-- The failure is a limit, and all rules of its trace are born of equations.
abbrev pub IsLimitAmong : Failed → Type 0
IsLimitAmong (Limit which trace) = IsTrue (list_all is_given trace)
IsLimitAmong Memory = ⊥

-- Completing these equations over no rules passes a limit, and all rules up to then are born of them.
pub record StopsAmong (limits : Limits) (given : List (List Symbol × List Symbol)) : Type 0 where
  pub which : Which
  pub trace : List Rule
  pub passes : Passes limits 0 given trace which
  pub among : IsTrue (list_all is_given trace)
