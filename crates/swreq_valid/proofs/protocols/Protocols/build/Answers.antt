use Rattle.std.proofs.Common.{Err}
use Rattle.std.proofs.lemmas.Result.{err_from_is_err_and}
use Rattle.swreq_symbols.specs.Meaning.{facts_of}
use Rattle.swreq_valid.specs.Built.{protocol_rules}
use Rattle.swreq_valid.specs.Protocols.{protocols_of}
use Rattle.swreq_valid.specs.Rounds.{last_rules}
use Rattle.swreq_valid.specs.Sides.{protocol_sides}
use Rattle.swreq_valid.proofs.Building.{only_built}
use Rattle.swreq_valid.proofs.Made.{build_usable, protocols_failed, protocols_judged}
use Rattle.swreq_symbols.specs.Texts.{world_of}
use Rattle.swreq_symbols.proofs.OfTexts.{text_over}
use Rattle.swreq_valid.proofs.protocols.Protocols.build.Goals as goal

pub returns-in_err-rounds-clause-answer : goal.returns-in_err-rounds-clause-answer
returns-in_err-rounds-clause-answer g c =
    let p = err_from_is_err_and c.from_residual.result c.from_residual.ensures.1 in
    rw p.1
    (protocols_failed (world_of c.args.text.now) (text_over c.args.text.now).closed c.args.limits (g.W.Watch.told c.args.watch.now)
    (g.W.Watch.told c.complete_protocols.new.watch) c.in_err-rounds.field-0.0 p.0 p.2 c.in_err-rounds.ensures.answer)

pub returns-in_err-rounds-clause-only : goal.returns-in_err-rounds-clause-only
returns-in_err-rounds-clause-only g c =
    let p = err_from_is_err_and c.from_residual.result c.from_residual.ensures.1 in
    rw p.1
    (only_built c.args.limits (protocols_of (world_of c.args.text.now))
    (facts_of (world_of c.args.text.now)) (protocol_sides (world_of c.args.text.now)) (Err p.0)
    (g.W.Watch.told c.args.watch.now) (g.W.Watch.told c.complete_protocols.new.watch)
    (protocols_failed (world_of c.args.text.now) (text_over c.args.text.now).closed c.args.limits (g.W.Watch.told c.args.watch.now)
    (g.W.Watch.told c.complete_protocols.new.watch) c.in_err-rounds.field-0.0 p.0 p.2 c.in_err-rounds.ensures.answer))

pub returns-clause-answer : goal.returns-clause-answer
returns-clause-answer g c =
    protocols_judged (world_of c.args.text.now) (text_over c.args.text.now).closed c.args.limits (g.W.Watch.told c.args.watch.now)
    (g.W.Watch.told c.complete_protocols.new.watch) c.in_ok-rounds.rounds c.judge_protocols.result c.in_ok-rounds.ensures.answer
    c.in_ok-rounds.ensures.rules c.judge_protocols.ensures.judged

pub returns-clause-only : goal.returns-clause-only
returns-clause-only g c =
    only_built c.args.limits (protocols_of (world_of c.args.text.now))
    (facts_of (world_of c.args.text.now)) (protocol_sides (world_of c.args.text.now))
    (protocol_rules c.judge_protocols.result) (g.W.Watch.told c.args.watch.now) (g.W.Watch.told c.complete_protocols.new.watch)
    (protocols_judged (world_of c.args.text.now) (text_over c.args.text.now).closed c.args.limits (g.W.Watch.told c.args.watch.now)
    (g.W.Watch.told c.complete_protocols.new.watch) c.in_ok-rounds.rounds c.judge_protocols.result c.in_ok-rounds.ensures.answer
    c.in_ok-rounds.ensures.rules c.judge_protocols.ensures.judged)

pub returns-clause-usable : goal.returns-clause-usable
returns-clause-usable g c =
    build_usable (world_of c.args.text.now) (text_over c.args.text.now).closed
    (last_rules c.in_ok-rounds.rounds) c.in_ok-rounds.ensures.rules c.judge_protocols.result c.judge_protocols.ensures.usable
