use Rattle.std.proofs.Common.{◌≡◌, ℕ, List, Some, length, slice_get, take}
use Rattle.swreq_subst.specs.Calls.{TermCall}
use Rattle.swreq_subst.specs.Lines.{IsLineOf}
use Rattle.swreq_machine.specs.swreq_world.Worlds.{TextWorld}
use Rattle.swreq_check.specs.CallLines.{AnswersCalls}
use Rattle.swreq_check.specs.Made.{text_at}
use Rattle.swreq_check.proofs.calling.joined.Given as goal

abbrev pub invariant-loop-k : goal.invariant-loop-k
invariant-loop-k l = (w : TextWorld) (calls : List TermCall) → length l.lines ≡ length calls
    → ((k : ℕ) (c : TermCall) → slice_get calls k ≡ Some c → IsLineOf w c (text_at l.lines k)) → AnswersCalls w (take l.k calls) l.out.items
