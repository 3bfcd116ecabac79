use Rattle.std.proofs.Common.{◌≡◌, ◌-◌, ◌∙◌, length, take, drop, subst, arith}
use Rattle.std.proofs.lemmas.List.{take_all, length-drop}
use Rattle.std.specs.Str.{IsUtf8}
use Rattle.swreq_lex.proofs.TextLemmas.{is_right}
use Rattle.swreq_lex.proofs.lexer.tokens_from.Goals as goal

pub returns-in-Ok : goal.returns-in-Ok
returns-in-Ok c =
    let text = c.args.text.now in
    let from = c.args.from in
    let whole : take (length text - from) (drop from text) ≡ drop from text
    = take_all (length text - from) (drop from text) (omega (arith, length-drop from text)) in
    let same = c.in-Ok.ensures.cases in
    let read = c.to_read.ensures.chars text (same.0 ∙ whole) in
    let right =
    is_right text from c.requires.within c.to_read.result.now (subst IsUtf8 whole same.1) c.to_read.utf8 read c.lex.result c.lex.ensures in
    record { ok = right.ok; err = right.err; tokens = right.tokens; refusal = right.refusal }
