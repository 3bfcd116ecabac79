use Rattle.std.proofs.Common.{◌∙◌, string_bytes, ap}
use Rattle.swreq_words.specs.Reading.{with_next}
use Rattle.swreq_words.proofs.Steps.{refused, goes_on, ended}
use Rattle.swreq_words.proofs.form.are_parts.Goals as goal

pub returns-in-None : goal.returns-in-None
returns-in-None c =
    refused string_bytes c.args.may c.loop-word.seen _ _ c.args.words.now _ c.loop-word.invariant c.loop-word-test.true c.word-item.is
    (c.with_next.ensures ∙ ap (with_next c.args.may c.loop-word.seen) c.as_str.ensures.value) c.in-None.is

pub loop-word-preserved : goal.loop-word-preserved
loop-word-preserved c =
    goes_on string_bytes c.args.may c.loop-word.seen _ _ _ c.args.words.now _ c.loop-word.invariant c.loop-word-test.true c.word-item.is
    (c.with_next.ensures ∙ ap (with_next c.args.may c.loop-word.seen) c.as_str.ensures.value) c.in-Some.is

pub returns : goal.returns
returns c =
    c.is_done.ensures ∙ ended string_bytes c.args.may c.loop-word.seen c.args.words.now _ c.loop-word.invariant c.loop-word-test.false
