use Rattle.std.proofs.Common.{◌≡◌, refl, subst, arith, length}
use Rattle.swreq_verify.specs.Turns.{AreTurns}
use Rattle.swreq_verify.proofs.InTurn.{moved_turns, one_turn_more}
use Rattle.swreq_verify.proofs.turns.turns_of.Goals as goal

pub loop-k-preserved : goal.loop-k-preserved
loop-k-preserved c =
    one_turn_more c.loop-k.turns.items c.push.new.self.items
    _ c.loop-k.k
    c.loop-k.invariant refl c.in_ok-push.ensures.items

pub returns : goal.returns
returns c =
    let queries = c.args.queries.now in
    let at_end : c.loop-k.k ≡ length queries = omega (arith, c.loop-k-test.false, c.loop-k.auto.k-end) in
    moved_turns c.loop-k.turns.items c.sort_unstable.new.self.items (length queries) c.sort_unstable.ensures.permutation
    (subst (AreTurns c.loop-k.turns.items) at_end c.loop-k.invariant)
