use Rattle.std.proofs.{Common.{◌≡◌, ◌∙◌, ◌<◌, ◌≤◌, ap, arith, length}, lemmas.Option.{slice_get_within}}
use Rattle.swreq_readings.specs.{swreq_lexicon.Views.{LexiconView}, Alphabets.{lexicon}}
use Rattle.swreq_births.proofs.types.shown_step.Goals as goal

pub unreachable-requires : goal.unreachable-requires
unreachable-requires c =
    let declared = (lexicon c.args.alphabet.now).associated in
    let w = c.requires.shown in
    let h : w.0 < length declared = slice_get_within declared w.0 w.1 w.2.0 in
    let e : c.associated-k-end.result ≤ c.loop-k.k = c.loop-k-test.false in
    let f : c.associated-k-end.result ≡ length declared
    = c.associated-k-end.ensures ∙ ap (λ (x : LexiconView). length x.associated) c.lexicon.ensures in
    c.loop-k.invariant w.0 w.1 (omega (arith, h, e, f)) w.2
