use Rattle.std.proofs.Common.{◌∙◌, [], refl, sym}
use Rattle.swreq_top.proofs.Delivering.{answers_text, read_whole}
use Rattle.swreq_top.proofs.program.answer.Goals as goal

pub returns-in-Nothing-clause-answer : goal.returns-in-Nothing-clause-answer
returns-in-Nothing-clause-answer g c =
    let left = g.S.Source.left c.args.src.now in
    answers_text c.args.line.now left left (g.W.Watch.told c.args.watch.now) (g.W.Watch.told c.replied.new.watch) [] (λ none. refl)
    (λ some. absurd (some (sym c.input.ensures ∙ c.in-Nothing.is))) c.replied.result c.replied.ensures

pub returns-in_ok-text-in_default-clause-answer : goal.returns-in_ok-text-in_default-clause-answer
returns-in_ok-text-in_default-clause-answer g c =
    let line = c.args.line.now in
    let left = g.S.Source.left c.args.src.now in
    let rest = g.S.Source.left c.read_all.new.src in
    let old = g.W.Watch.told c.args.watch.now in
    let new = g.W.Watch.told c.replied-in_default.new.watch in
    let read = c.in_ok-text-in_default in
    let had = read_whole left rest read.text.items read.ensures.all read.ensures.end read.ensures.within in
    answers_text line left rest old new read.text.items
    (λ none. absurd (c.in_default.not-Nothing (c.input.ensures ∙ none))) (λ known. had)
    c.replied-in_default.result (rw c.deref.ensures.value at c.replied-in_default.ensures)
