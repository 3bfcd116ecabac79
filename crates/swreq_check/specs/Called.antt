-- Calls that are answered, over the table of their text.
use Rattle.std.specs.Prelude.{ℕ, List, All, Option, map}
use Rattle.swreq_machine.specs.swreq_param.Terms.{Term}
use Rattle.swreq_machine.specs.Machines.{MachineView}
use Rattle.swreq_subst.specs.Calls.{IsCallIn, IsMachineOn, call_by}
use Rattle.swreq_check.specs.declared.called.Called.{Called}
use Rattle.swreq_check.specs.declared.called.CallsOf.{CallsOf}
use Rattle.swreq_check.specs.declared.piece.Piece.{Piece}
use Rattle.swreq_check.specs.CallLines.{AreCallLines, IsLineThere}
use Rattle.swreq_check.specs.Passed.{HasPassed, world_of}

-- The text has passed its check, and the calls are of it.
pub record AreCalled (terms : List Term) (c : Called) : Type 0 where
  pub passed : HasPassed terms c.passed
  pub calls : All (IsCallIn terms c.passed.world.now) c.calls.now

-- The same, and the machine is that of the signature.
pub record HaveMachine (terms : List Term) (of : CallsOf) (m : MachineView) : Type 0 where
  pub called : AreCalled terms of.called
  pub machine : IsMachineOn (world_of terms of.called.passed) of.f m

-- Its text is the line of the call at this place.
abbrev pub IsLineFor : List Term → Called → ℕ → Piece → Type 0
IsLineFor terms c = IsLineThere (world_of terms c.passed) (map (call_by terms) c.calls.now)

-- What stands at its place is the line of the call there, and the lines of the calls of the first `signatures` signatures are there.
abbrev pub AreLinesTo : List Term → Called → ℕ → List (Option Piece) → Type 0
AreLinesTo terms c signatures lines = AreCallLines (world_of terms c.passed) terms c.calls.now signatures lines
