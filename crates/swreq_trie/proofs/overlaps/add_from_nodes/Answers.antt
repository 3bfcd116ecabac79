use Rattle.std.proofs.Common.{ℕ, arith}
use Rattle.swreq_trie.specs.declared.spots.Spot.{Spot}
use Rattle.swreq_trie.specs.declared.walk.Met.{Met}
use Rattle.swreq_trie.specs.Marks.{Holds, IsListed}
use Rattle.swreq_trie.specs.Keys.{IsFromKey}
use Rattle.swreq_trie.proofs.Collecting.{gains_like, gains_start, gains_more, gains_all}
use Rattle.swreq_trie.proofs.overlaps.add_from_nodes.Goals as goal

pub loop-met-init : goal.loop-met-init
loop-met-init c =
    gains_start c.args.nodes.now
    (λ (met : Met) key. (spot : Spot) × IsListed c.args.lists.now met.node spot
    × IsFromKey c.args.number c.args.at c.args.long met.depth spot key) c.args.keys.now.items

pub loop-met-preserved : goal.loop-met-preserved
loop-met-preserved c =
    let Gained : Met → ℕ × ℕ × ℕ → Type 0 =
    λ met key. (spot : Spot) × IsListed c.args.lists.now met.node spot × IsFromKey c.args.number c.args.at c.args.long met.depth spot key in
    gains_more c.args.nodes.now Gained c.loop-met.met-index _ c.loop-met-test.true c.args.keys.now.items c.loop-met.keys.items
    c.add_from.new.keys.items
    c.loop-met.invariant
    (gains_like (λ key. (spot : Spot) × Holds c.spots_of.result.now spot × IsFromKey c.args.number c.args.at c.args.long _ spot key)
    (Gained _)
    c.loop-met.keys.items c.add_from.new.keys.items (λ key v. (v.0, c.spots_of.ensures.only v.0 v.1, v.2))
    (λ key v. (v.0, c.spots_of.ensures.all v.0 v.1, v.2))
    c.in_ok-add_from.ensures)

pub returns : goal.returns
returns c =
    gains_all c.args.nodes.now
    (λ (met : Met) key.
    (spot : Spot) × IsListed c.args.lists.now met.node spot × IsFromKey c.args.number c.args.at c.args.long met.depth spot key)
    c.loop-met.met-index (omega arith) c.args.keys.now.items c.loop-met.keys.items c.loop-met.invariant
