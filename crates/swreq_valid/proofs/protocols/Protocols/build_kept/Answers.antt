use Rattle.std.proofs.Common.{sym, subst, List, Ok}
use Rattle.std.proofs.lemmas.Result.{err_from_is_err_and}
use Rattle.swreq_rounds.specs.Presents.{AreProtocolRules}
use Rattle.swreq_symbols.specs.Meaning.{symbols_of}
use Rattle.swreq_valid.specs.Answers.{Answers, IsOnlyOutcome}
use Rattle.swreq_valid.specs.Keeping.{kept_facts, kept_plan}
use Rattle.swreq_valid.specs.Rounds.{AreRounds, RoundView, last_rules}
use Rattle.swreq_valid.proofs.Building.{memory_at_end}
use Rattle.swreq_valid.proofs.Made.{kept_usable}
use Rattle.swreq_symbols.specs.Texts.{world_of}
use Rattle.swreq_symbols.proofs.OfTexts.{text_over}
use Rattle.swreq_valid.proofs.protocols.Protocols.build_kept.Goals as goal

pub returns-in_err-protocols-clause-answer : goal.returns-in_err-protocols-clause-answer
returns-in_err-protocols-clause-answer g c =
    let p = err_from_is_err_and c.from_residual-in_err-protocols.result c.from_residual-in_err-protocols.ensures.1 in
    rw (p.1, p.2)
    (memory_at_end c.args.limits (kept_plan (world_of c.args.text.now) c.args.keep.now.lists)
    (last_rules c.in_ok-rounds.rounds)
    (g.W.Watch.told c.args.watch.now) (g.W.Watch.told c.complete_kept.new.watch) c.in_ok-rounds.ensures.answer)

pub returns-clause-answer : goal.returns-clause-answer
returns-clause-answer g c =
    subst (λ (z : List RoundView). Answers c.args.limits (kept_plan (world_of c.args.text.now) c.args.keep.now.lists)
    (g.W.Watch.told c.args.watch.now) (g.W.Watch.told c.complete_kept.new.watch) (Ok (last_rules z)))
    (sym c.in_ok-protocols.ensures.same) c.in_ok-rounds.ensures.answer

pub returns-clause-only : goal.returns-clause-only
returns-clause-only g c =
    subst (λ (z : List RoundView).
    IsOnlyOutcome c.args.limits (kept_plan (world_of c.args.text.now) c.args.keep.now.lists) (Ok (last_rules z)))
    (sym c.in_ok-protocols.ensures.same) c.in_ok-rounds.ensures.only

pub returns-clause-rounds : goal.returns-clause-rounds
returns-clause-rounds g c =
    subst (AreRounds c.args.limits (kept_plan (world_of c.args.text.now) c.args.keep.now.lists))
    (sym c.in_ok-protocols.ensures.same) c.in_ok-rounds.ensures.rounds

pub returns-clause-rules : goal.returns-clause-rules
returns-clause-rules g c =
    subst (λ (z : List RoundView). AreProtocolRules (symbols_of c.args.text.now.world.now.lexicon)
    (kept_facts (world_of c.args.text.now) c.args.keep.now.lists) (last_rules z))
    (sym c.in_ok-protocols.ensures.same) c.in_ok-rounds.ensures.rules

pub returns-clause-usable : goal.returns-clause-usable
returns-clause-usable g c =
    kept_usable (world_of c.args.text.now) (text_over c.args.text.now).closed c.args.keep.now.lists
    (last_rules c.in_ok-rounds.rounds) c.in_ok-rounds.ensures.rules
    c.in_ok-protocols.protocols.usable c.in_ok-protocols.ensures.usable
