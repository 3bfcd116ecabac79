use Rattle.std.proofs.Common.{◌≡◌, ◌≤◌, length}
use denote.Text.{Utf8}
use denote.Shadow.{shadow}
use Rattle.std.specs.Str.{chars}
use Rattle.swreq_lex.specs.Characters.{continues_line}
use Rattle.swreq_lex.specs.Reader.{past}
use Rattle.swreq_lex.proofs.comments.past_line.Given as goal

abbrev pub invariant-loop-c : goal.invariant-loop-c
invariant-loop-c l =
    shadow (Utf8 l.rest) × (length l.rest ≤ length l.text) × (past continues_line (chars l.rest) ≡ past continues_line (chars l.text))

abbrev pub decreases-loop-c : goal.decreases-loop-c
decreases-loop-c l = length l.rest
