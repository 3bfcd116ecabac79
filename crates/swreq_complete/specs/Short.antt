-- What equations bear by themselves: how far a completion comes before its first pair.
use Rattle.std.specs.Prelude.{◌≡◌, ◌⊎◌, ℕ, ◌≤◌, List, length, slice_get, Some, Result, Ok, Err}
use Rattle.swreq_rule.specs.swreq_word.declared.symbols.Symbol.{Symbol}
use Rattle.swreq_rule.specs.declared.rules.Birth.{Birth}
use Rattle.swreq_rule.specs.declared.rules.Birth.TheVariants.{Given, Pair}
use Rattle.swreq_rule.specs.declared.rules.Rule.{Rule}
use Rattle.swreq_complete.specs.declared.limit.Limits.{Limits}
use Rattle.swreq_complete.specs.declared.limit.Which.{Which}
use Rattle.swreq_complete.specs.declared.limit.Failed.{Failed}
use Rattle.swreq_complete.specs.declared.limit.Failed.TheVariants.{Limit, Memory}
use Rattle.swreq_complete.specs.Limits.{KeepsAll, Passes}
use Rattle.swreq_complete.specs.Moments.{HasSides}
use Rattle.swreq_complete.specs.Reached.{BeginsWith, IsReached}
use Rattle.swreq_complete.specs.Settled.{Settled}
use Rattle.swreq_complete.specs.Answers.{IsMemory}

-- The birth is of an equation, and not of a pair.
abbrev pub IsOfEquation : Birth → Type 0
IsOfEquation (Given n) = Unit {0}
IsOfEquation (Pair i j at) = ⊥

-- All rules past the base are born of equations.
abbrev pub AreOfEquations : ℕ → List Rule → Type 0
AreOfEquations base trace = (k : ℕ) (rule : Rule) → base ≤ k → slice_get trace k ≡ Some rule → IsOfEquation rule.birth

-- The equations bear these rules by themselves, within the limits: each is settled, by the rules before it, and no pair is.
pub record BearsWithin (limits : Limits) (base : ℕ) (given : List (List Symbol × List Symbol)) (trace : List Rule) : Type 0 where
  pub reached : IsReached base given trace
  pub of_equations : AreOfEquations base trace
  pub settled : (n : ℕ) (left right : List Symbol) → HasSides base given trace (Given n) left right
      → Settled base trace (Given n) left right
  pub kept : KeepsAll limits base trace

-- A rule that they bear by themselves passes the limit.
pub record PassesAmong (limits : Limits) (base : ℕ) (given : List (List Symbol × List Symbol)) (trace : List Rule) (which : Which)
    : Type 0 where
  pub passes : Passes limits base given trace which
  pub of_equations : AreOfEquations base trace

-- The rules that the equations bear by themselves over the base, or the limit that one of them passes, with the trace up to it.
abbrev pub IsBorneBy : Limits → List Rule → List (List Symbol × List Symbol) → Result (List Rule) Failed → Type 0
IsBorneBy limits base given (Ok trace) = BeginsWith base trace × BearsWithin limits (length base) given trace
IsBorneBy limits base given (Err (Limit which trace)) = BeginsWith base trace × PassesAmong limits (length base) given trace which
IsBorneBy limits base given (Err Memory) = Unit {0}

-- unless memory runs out, there is no other answer
abbrev pub IsOnlyBorne : Limits → List Rule → List (List Symbol × List Symbol) → Result (List Rule) Failed → Type 0
IsOnlyBorne limits base given answer =
    (other : Result (List Rule) Failed) → IsBorneBy limits base given other → (answer ≡ other) ⊎ (IsMemory answer ⊎ IsMemory other)
