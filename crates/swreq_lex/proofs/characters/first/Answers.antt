use Rattle.std.proofs.Common.{◌+◌, length, ap, ◌∙◌, sym}
use Rattle.std.proofs.lemmas.Str.{chars_past_char, length-encode}
use Rattle.std.proofs.lemmas.List.{length-append}
use Rattle.swreq_lex.proofs.characters.first.Goals as goal

pub returns-clause-chars : goal.returns-clause-chars
returns-clause-chars c =
    let e = sym c.chars-left.ensures.rest ∙ c.in_ok-c.ensures.steps.0 in
    rw c.as_str.ensures (chars_past_char c.args.text.now c.next.new.self.rest.now c.in_ok-c.c c.utf8.text e)

pub returns-clause-len : goal.returns-clause-len
returns-clause-len c =
    let e = sym c.chars-left.ensures.rest ∙ c.in_ok-c.ensures.steps.0 in
    rw (c.as_str.ensures, e, length-append) (ap (λ n. n + length c.next.new.self.rest.now) (length-encode c.in_ok-c.c))
