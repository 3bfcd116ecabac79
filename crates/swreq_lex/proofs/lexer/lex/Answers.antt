use Rattle.std.proofs.Common.{Err, ◌≡◌, ◌-◌, ◌+◌, sym, ap, ◌∙◌, length, take, arith, rules}
use Rattle.std.specs.Str.{chars, IsUtf8}
use Rattle.std.proofs.lemmas.Str.{encodes-chars}
use Rattle.swreq_lex.specs.Words.{kind_of_bytes}
use Rattle.swreq_lex.specs.Reader.{read}
use Rattle.swreq_lex.specs.declared.refusal.LexErr.TheVariants as errors
use Rattle.swreq_lex.proofs.Loop.{on_gap, on_word, on_mark, on_nothing, on_bad, on_open, on_last, byte_length_chars}
use Rattle.swreq_lex.proofs.lexer.lex.Goals as goal
use Rattle.swreq_lex.proofs.lexer.lex.Goals.{in-Gap, in-Word+in_ok-push-in-Word, in-Mark+in_ok-push-in-Mark}

pub returns-in-Nothing : goal.returns-in-Nothing
returns-in-Nothing c =
    let n = length c.args.text.now in
    on_nothing (n - c.loop.counter) (n - (c.loop.counter + 1)) c.args.end_of_text c.loop.found.items (chars c.loop.rest.now)
    (read n c.args.end_of_text (chars c.args.text.now)) (omega arith) c.loop.invariant.2 (sym c.in-Nothing.ensures.seen)

pub returns-in-BadCharacter : goal.returns-in-BadCharacter
returns-in-BadCharacter c =
    let n = length c.args.text.now in
    on_bad (n - c.loop.counter) (n - (c.loop.counter + 1)) c.args.end_of_text c.loop.found.items (chars c.loop.rest.now)
    (read n c.args.end_of_text (chars c.args.text.now)) (omega arith) c.loop.invariant.2 (sym c.in-BadCharacter.ensures.seen)
    ∙ ap (λ k. Err (errors.BadCharacter (c.args.end_of_text - k))) (byte_length_chars c.loop.rest.now c.loop.invariant.0)

pub returns-in-OpenComment : goal.returns-in-OpenComment
returns-in-OpenComment c =
    let n = length c.args.text.now in
    on_open (n - c.loop.counter) (n - (c.loop.counter + 1)) c.args.end_of_text c.loop.found.items (chars c.loop.rest.now)
    (read n c.args.end_of_text (chars c.args.text.now)) (omega arith) c.loop.invariant.2 (sym c.in-OpenComment.ensures.seen)
    ∙ ap (λ k. Err (errors.OpenComment (c.args.end_of_text - k))) (byte_length_chars c.loop.rest.now c.loop.invariant.0)

pub loop-preserved : goal.loop-preserved
loop-preserved c =
    let n = length c.args.text.now in
    elim c.match-front_of.branch [
      | in-Gap w ↦ rw (w.rest-is, w.found-is) (
        search rules,
        omega (arith, w.in-Gap.ensures.len),
        on_gap (n - c.loop.counter) (n - (c.loop.counter + 1)) c.args.end_of_text c.loop.found.items (chars c.loop.rest.now)
            (read n c.args.end_of_text (chars c.args.text.now)) (omega arith) c.loop.invariant.2 (chars w.in-Gap.after.now)
            (sym w.in-Gap.ensures.seen),
      )
      | in-Word+in_ok-push-in-Word w ↦
          let u : IsUtf8 w.in-Word.after.now = search rules in
          let kd : w.kind_of.result ≡ kind_of_bytes (take (length c.loop.rest.now - length w.in-Word.after.now) c.loop.rest.now) =
          search rules in
          rw (w.rest-is, w.found-is, w.in_ok-push-in-Word.ensures.items) (
            u,
            omega (arith, w.in-Word.ensures.len),
            on_word (n - c.loop.counter) (n - (c.loop.counter + 1)) c.args.end_of_text c.loop.found.items (chars c.loop.rest.now)
                (read n c.args.end_of_text (chars c.args.text.now)) (omega arith) c.loop.invariant.2
                c.loop.rest.now (length c.loop.rest.now) (length w.in-Word.after.now) w.kind_of.result (chars w.in-Word.after.now) kd
                (encodes-chars c.loop.rest.now c.loop.invariant.0) (byte_length_chars c.loop.rest.now c.loop.invariant.0)
                (byte_length_chars w.in-Word.after.now u) (sym w.in-Word.ensures.seen),
          )
      | in-Mark+in_ok-push-in-Mark w ↦
          let u : IsUtf8 w.in-Mark.after.now = search rules in
          rw (w.rest-is, w.found-is, w.in_ok-push-in-Mark.ensures.items) (
            u,
            omega (arith, w.in-Mark.ensures.len),
            on_mark (n - c.loop.counter) (n - (c.loop.counter + 1)) c.args.end_of_text c.loop.found.items (chars c.loop.rest.now)
                (read n c.args.end_of_text (chars c.args.text.now)) (omega arith) c.loop.invariant.2
                (length c.loop.rest.now) (length w.in-Mark.after.now) w.in-Mark.n (chars w.in-Mark.after.now) (byte_length_chars
                c.loop.rest.now c.loop.invariant.0) (byte_length_chars w.in-Mark.after.now u) (sym w.in-Mark.ensures.seen),
          )
    ]

pub returns : goal.returns
returns c =
    let n = length c.args.text.now in
    on_last (n - c.loop.counter) c.args.end_of_text c.loop.found.items (chars c.loop.rest.now)
    (read n c.args.end_of_text (chars c.args.text.now)) (omega arith) c.loop.invariant.2
