use Rattle.std.proofs.Common.{◌≡◌, ◌+◌, ◌≤◌, length}
use denote.Text.{Utf8}
use denote.Shadow.{shadow}
use Rattle.std.specs.Str.{chars}
use Rattle.swreq_lex.specs.Reader.{past_comment}
use Rattle.swreq_lex.proofs.comments.past_comment.Given as goal

abbrev pub invariant-loop-c : goal.invariant-loop-c
invariant-loop-c l = shadow (Utf8 l.rest) × (l.depth + length l.rest ≤ length l.text)
    × (past_comment l.depth l.before (chars l.rest) ≡ past_comment 0 32 (chars l.text))

abbrev pub decreases-loop-c : goal.decreases-loop-c
decreases-loop-c l = length l.rest
