use Rattle.std.proofs.Common.{◌≡◌, ℕ, length, subst, arith}
use Rattle.swreq_trie.specs.Places.{IsFrom}
use Rattle.swreq_trie.specs.Keys.{Gains, place_of}
use Rattle.swreq_trie.proofs.Collecting.{GainedAtBelow, gains_at_start, gains_at_more}
use Rattle.swreq_trie.proofs.trie.Trie.add_all_from.Goals as goal

pub loop-at-init : goal.loop-at-init
loop-at-init c =
    gains_at_start (λ at key. (k : ℕ) × IsFrom c.args.self.now c.args.left.now c.args.number k at (place_of key)) c.args.keys.now.items

pub loop-at-preserved : goal.loop-at-preserved
loop-at-preserved c =
    gains_at_more (λ at key. (k : ℕ) × IsFrom c.args.self.now c.args.left.now c.args.number k at (place_of key))
    c.loop-at.at c.args.keys.now.items
    c.loop-at.keys.items c.add_from_at.new.keys.items c.loop-at.invariant c.in_ok-add_from_at.ensures

pub returns : goal.returns
returns c =
    let whole : c.loop-at.at ≡ length c.args.left.now = omega arith in
    subst
    (λ n. Gains (GainedAtBelow (λ at key. (k : ℕ) × IsFrom c.args.self.now c.args.left.now c.args.number k at (place_of key)) n)
    c.args.keys.now.items c.loop-at.keys.items)
    whole c.loop-at.invariant
