use Rattle.std.proofs.Common.{◌≡◌, ◌∙◌, refl, sym, ap, subst, ℕ, ◌<◌, arith, Some, length}
use Rattle.std.specs.Prelude.{slice_get}
use Rattle.std.proofs.lemmas.List.{length-map}
use Rattle.std.proofs.lemmas.Option.{slice_get_read}
use Rattle.swreq_world.proofs.swreq_lemmas.Elements.{get_contains}
use Rattle.swreq_world.specs.swreq_lowering.ByTable.{query_by}
use Rattle.swreq_world.specs.ByTable.{world_by}
use Rattle.swreq_verify.specs.Claims.{LaidView, sections_of}
use Rattle.swreq_verify.specs.Turns.{AreTurns}
use Rattle.swreq_verify.proofs.InTurn.{all_in_turn, judged_in_turn}
use Rattle.swreq_verify.proofs.judging.judgements.Goals as goal
use Rattle.swreq_verify.proofs.judging.judgements.Goals.{After-index-turn}

-- the turn that is read
turn_at : (c : After-index-turn) → slice_get c.in_ok-turns.turns.items c.loop-n.n ≡ Some c.index-turn.result.now
turn_at c =
    let turns = c.in_ok-turns.turns.items in
    let below = c.loop-n-test.true in
    let end = c.len-n-end.ensures in
    slice_get_read turns (length turns) c.loop-n.n c.index-turn.result.now refl (omega arith) c.index-turn.ensures

-- is that of a query
turn_within : (c : After-index-turn) → c.index-turn.result.now.query < length c.args.laid.now.text.world.now.queries
turn_within c =
    let turn = c.index-turn.result.now in
    let within = c.in_ok-turns.ensures.within turn (get_contains c.in_ok-turns.turns.items c.loop-n.n turn (turn_at c)) in
    let same = ap length c.queries-queries.ensures ∙ ap (λ (v : LaidView). length v.text.world.now.queries) c.laid.view_is in
    omega (arith, within, same)

pub judgement_at-requires-clause-k : goal.judgement_at-requires-clause-k
judgement_at-requires-clause-k c = turn_within (goal.at.judgement_at-requires-clause-k c).After-index-turn

pub index_mut-requires : goal.index_mut-requires
index_mut-requires c =
    let within = turn_within (goal.at.index_mut-requires c).After-index-turn in
    let count = c.loop-n.invariant.before.count in
    let queries = length-map c.args.laid.now.text.world.now.queries (query_by c.args.laid.now.text.table.now) in
    omega (arith, within, count, queries)

pub loop-n-preserved : goal.loop-n-preserved
loop-n-preserved c =
    let terms = c.args.laid.now.text.table.now in
    let known = (goal.at.loop-n-preserved c).After-index-turn in
    record {
      before = judged_in_turn (world_by terms c.args.laid.now.text.world.now)
          (sections_of c.args.laid.now) c.in_ok-turns.turns.items c.loop-n.found.items
          c.loop-n.n c.index-turn.result.now c.in_ok-said.said.judgement c.loop-n.invariant.before
          (turn_at known) c.in_ok-said.ensures.said;
      kept = c.in_ok-said.ensures.kept;
    }

pub returns : goal.returns
returns c =
    let terms = c.args.laid.now.text.table.now in
    let W = world_by terms c.args.laid.now.text.world.now in
    let turns = c.in_ok-turns.turns.items in
    let count : length c.queries-queries.result.now ≡ length W.queries = ap length c.queries-queries.ensures
    ∙ ap (λ (v : LaidView). length v.text.world.now.queries) c.laid.view_is
    ∙ sym (length-map c.args.laid.now.text.world.now.queries (query_by terms)) in
    let past = c.loop-n-test.false in
    let end = c.len-n-end.ensures in
    all_in_turn W (sections_of c.args.laid.now) turns c.loop-n.found.items c.loop-n.n
    (subst (λ (n : ℕ). AreTurns turns n) count c.in_ok-turns.ensures) c.loop-n.invariant.before (omega arith)
