-- What the calls on what is asked need, and what comes of them.
use Rattle.std.specs.Prelude.{◌≡◌, ◌↔◌, ℕ, ◌+◌, ◌*◌, ◌≤◌, ◌++◌, Bool, true, false, Option, Some, None}
use Rattle.swreq_print.specs.swreq_param.Terms.{Term, member_count}
use Rattle.swreq_print.specs.swreq_derive.Derivation.{TermStatement}
use Rattle.swreq_print.specs.Names.{Text}
use Rattle.swreq_print.specs.swreq_lexicon.Views.{LexiconView}
use Rattle.swreq_print.specs.swreq_lowering.ByTable.{asks_by}
use Rattle.swreq_print.specs.swreq_lowering.Queries.{TermAsks}
use Rattle.swreq_print.specs.swreq_lowering.declared.ids.Asks.{Asks}
use Rattle.swreq_machine.specs.Asked.{ScratchView}
use Rattle.swreq_machine.specs.swreq_symbols.declared.text.Text.{Text as TableText}
use Rattle.swreq_machine.specs.swreq_symbols.Known.{IsAskedIn}
use Rattle.swreq_query.specs.declared.verdict.Verdict.{Verdict}
use Rattle.swreq_query.specs.declared.verdict.Verdict.TheVariants as verdicts
use Rattle.swreq_query.specs.Answers.{Answer, IsAnswer, IsAnswerLine, IsSide}
use Rattle.swreq_query.specs.Answers.Answer.{Invalid, Yes, No}

-- This is room for each side of what is asked.
abbrev pub IsRoomFor : TermAsks → ℕ → Type 0
IsRoomFor asks room = (s : Term) → IsSide asks s → 4 * (member_count s + 2) ≤ room

-- What is asked is of the text, and the scratch has room for each side of it.
pub record HasRoomToAnswer (text : TableText) (s : ScratchView) (asks : Asks) : Type 0 where
  pub of_text : IsAskedIn text.table.now text.world.now.lexicon asks
  pub room : IsRoomFor (asks_by text.table.now asks) s.room

-- The new text is the old one with the line of the answer after it.
abbrev pub AppendsAnswer : LexiconView → (TermStatement → Type 0) → TermAsks → Text → Text → Type 0
AppendsAnswer x derivable asks old new = (line : Text) × IsAnswerLine x derivable asks line × (new ≡ old ++ line)

abbrev pub answer_of : Verdict → Answer
answer_of verdicts.Invalid = Invalid
answer_of verdicts.Yes = Yes
answer_of verdicts.No = No

-- What is asked has a verdict if and only if it is this one.
abbrev pub IsVerdictOf : (TermStatement → Type 0) → TermAsks → Option Verdict → Type 0
IsVerdictOf derivable asks verdict = (v : Verdict) → IsAnswer derivable asks (answer_of v) ↔ (verdict ≡ Some v)

-- None where a side is not valid, and otherwise whether the requirement is derivable
abbrev pub verdict_of : Option Bool → Verdict
verdict_of None = verdicts.Invalid
verdict_of (Some true) = verdicts.Yes
verdict_of (Some false) = verdicts.No
