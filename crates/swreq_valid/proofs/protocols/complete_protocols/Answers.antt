use Rattle.std.proofs.Common.{refl, subst, Err}
use Rattle.swreq_valid.specs.Answers.{Answers}
use Rattle.swreq_valid.specs.Protocols.{protocols_of}
use Rattle.swreq_valid.specs.Rounds.{rules_of}
use Rattle.swreq_valid.proofs.Running.{only}
use Rattle.swreq_symbols.specs.Texts.{world_of}
use Rattle.swreq_symbols.proofs.OfTexts.{ids_over}
use Rattle.swreq_valid.proofs.protocols.complete_protocols.Goals as goal

pub limit_of_basic-requires : goal.limit_of_basic-requires
limit_of_basic-requires g c = record { ids = ids_over c.args.text.now }

pub returns-in-Some-clause-answer : goal.returns-in-Some-clause-answer
returns-in-Some-clause-answer g c = c.in-Some.ensures (protocols_of (world_of c.args.text.now)) refl refl

pub returns-in-Some-clause-only : goal.returns-in-Some-clause-only
returns-in-Some-clause-only g c =
    let plan = protocols_of (world_of c.args.text.now) in
    only c.args.limits plan (g.W.Watch.told c.args.watch.now) (g.W.Watch.told c.limit_of_basic.new.watch) (Err c.in-Some.failed)
    (c.in-Some.ensures plan refl refl)

pub returns-in-None-clause-answer : goal.returns-in-None-clause-answer
returns-in-None-clause-answer g c =
    subst (λ z. Answers c.args.limits (protocols_of (world_of c.args.text.now)) z
    (g.W.Watch.told c.run_protocols.new.watch) (rules_of c.run_protocols.result))
    c.in-None.ensures c.run_protocols.ensures.answer
