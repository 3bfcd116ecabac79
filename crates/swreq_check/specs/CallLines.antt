-- The lines of calls, at their places and one after the other.
use Rattle.std.specs.Prelude.{◌≡◌, ◌↔◌, ◌<◌, ℕ, List, Contains, Option, Some, length, map, slice_get}
use Rattle.std.specs.Option.{option_map}
use Rattle.swreq_lines.specs.swreq_print.Names.{Text}
use Rattle.swreq_machine.specs.swreq_world.Worlds.{TextWorld}
use Rattle.swreq_machine.specs.swreq_lowering.declared.ids.FuncId.{FuncId}
use Rattle.swreq_machine.specs.swreq_param.Terms.{Term}
use Rattle.swreq_subst.specs.declared.calls.Call.{Call}
use Rattle.swreq_subst.specs.Calls.{TermCall, call_by}
use Rattle.swreq_subst.specs.Lines.{IsLineOf}
use Rattle.swreq_check.specs.declared.piece.Piece.{Piece}
use Rattle.swreq_check.specs.Lines.{AreLinesIn}
use Rattle.swreq_check.specs.Made.{AreMade}

-- The text is the lines of these calls, one after the other.
abbrev pub AnswersCalls : TextWorld → List TermCall → Text → Type 0
AnswersCalls w = AreLinesIn (IsLineOf w)

-- ---- lines at their places

-- the caller of the call at this place
abbrev pub caller_at : List Call → ℕ → Option FuncId
caller_at calls k = option_map (λ (c : Call). c.f) (slice_get calls k)

-- These are the places of the calls of the signature.
abbrev pub ArePlacesOf : List Call → FuncId → List ℕ → Type 0
ArePlacesOf calls f places = (k : ℕ) → Contains places k ↔ ((k < length calls) × (caller_at calls k ≡ Some f))

-- Its text is the line of the call at this place.
abbrev pub IsLineThere : TextWorld → List TermCall → ℕ → Piece → Type 0
IsLineThere w calls k piece = (c : TermCall) → slice_get calls k ≡ Some c → IsLineOf w c piece.text

-- What stands at its place is the line of the call there, and the lines of the calls of the first `signatures` signatures are there.
abbrev pub AreCallLines : TextWorld → List Term → List Call → ℕ → List (Option Piece) → Type 0
AreCallLines w terms calls signatures lines =
    AreMade (IsLineThere w (map (call_by terms) calls)) (caller_at calls) (length calls) signatures lines
