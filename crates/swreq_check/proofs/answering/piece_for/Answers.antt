use Rattle.std.proofs.Common.{◌∙◌, ◌++◌, List, ap, true, ℕ}
use Rattle.swreq_machine.specs.swreq_derive.Derivation.{Derivable, Source}
use Rattle.swreq_machine.specs.swreq_lowering.ByTable.{query_by}
use Rattle.swreq_query.specs.Answers.{IsAnswer}
use Rattle.swreq_query.specs.Asked.{IsVerdictOf}
use Rattle.swreq_machine.specs.swreq_symbols.Meaning.{facts_of}
use Rattle.swreq_check.proofs.Flags.{query_in}
use Rattle.swreq_check.specs.Contents.{backing_of}
use Rattle.swreq_check.specs.QueryLines.{HasAnswer}
use Rattle.swreq_check.specs.Settings.{world_in}
use Rattle.swreq_check.proofs.Lines.{by_machine, line_by_types}
use Rattle.swreq_check.proofs.Asking.{asks_types, asks_types_by, machine_function}
use Rattle.swreq_check.proofs.answering.piece_for.Goals as goal

pub room_for-requires : goal.room_for-requires
room_for-requires c =
    (query_in c.args.means.now.own.s.now.world.now c.args.table.now c.requires.means.own.ready.text c.args.query.now c.requires.query.is).1

pub answer-requires-clause-no_signature : goal.answer-requires-clause-no_signature
answer-requires-clause-no_signature c = asks_types c.args.query.now c.args.means.now.own.f c.requires.query.asks

pub put_behind-requires-clause-verdict : goal.put_behind-requires-clause-verdict
put_behind-requires-clause-verdict c =
    let own = c.args.means.now.own in
    let w = world_in c.args.table.now own.s.now in
    let q = query_by c.args.table.now c.args.query.now in
    by_machine c.args.table.now own c.requires.means.own q (machine_function c.args.query.now own.f c.requires.query.asks)
    (λ (source : Source). IsVerdictOf (Derivable (facts_of w) source) q.asks c.in_ok-verdict.verdict)
    (c.in_ok-verdict.ensures.verdict _ c.requires.means.own.machine.machine)

pub returns-clause-piece : goal.returns-clause-piece
returns-clause-piece c =
    let own = c.args.means.now.own in
    let w = world_in c.args.table.now own.s.now in
    let q = query_by c.args.table.now c.args.query.now in
    let asks = machine_function c.args.query.now own.f c.requires.query.asks in
    let (line, (a, is, text), e) = c.in_ok-verdict.ensures.ok _ c.requires.means.own.machine.machine in
    let has : HasAnswer w true a q =
    by_machine c.args.table.now own c.requires.means.own q asks (λ (source : Source). IsAnswer (Derivable (facts_of w) source) q.asks a)
    is in
    let (behind, backs, more) = c.in_ok-put_behind.ensures.backing in (
      line_by_types w (backing_of own.s.now.content) q c.new.result
          (asks_types_by c.args.table.now c.args.query.now own.f c.requires.query.asks) (
            a,
            behind,
            has,
            backs a has,
            c.new.ensures ∙ more ∙ ap (λ (t : List ℕ). t ++ behind) (e ∙ ap (λ (t : List ℕ). t ++ line) c.new-text.ensures.items ∙ text),
          ),
      by_machine c.args.table.now own c.requires.means.own q asks
          (λ (source : Source). IsVerdictOf (Derivable (facts_of w) source) q.asks c.in_ok-verdict.verdict)
          (c.in_ok-verdict.ensures.verdict _ c.requires.means.own.machine.machine),
    )
