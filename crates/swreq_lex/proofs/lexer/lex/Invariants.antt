use Rattle.std.proofs.Common.{◌≡◌, ◌-◌, ◌≤◌, length}
use denote.Text.{Utf8}
use denote.Shadow.{shadow}
use Rattle.std.specs.Str.{chars}
use Rattle.swreq_lex.specs.Reader.{read}
use Rattle.swreq_lex.proofs.Loop.{with_front}
use Rattle.swreq_lex.proofs.lexer.lex.Given as goal

abbrev pub invariant-loop : goal.invariant-loop
invariant-loop l = shadow (Utf8 l.rest) × (length l.rest ≤ l.end_of_text) × (with_front l.found.items
    (read (length l.text - l.counter) l.end_of_text (chars l.rest)) ≡ read (length l.text) l.end_of_text (chars l.text))
