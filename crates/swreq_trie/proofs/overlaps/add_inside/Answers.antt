use Rattle.std.proofs.Common.{◌≡◌, arith}
use Rattle.std.proofs.lemmas.Result.{on_ok_weaker}
use Rattle.swreq_trie.specs.Keys.{IsInsideKey}
use Rattle.swreq_trie.proofs.Collecting.{gains_like}
use Rattle.swreq_trie.proofs.overlaps.add_inside.Goals as goal

pub returns-then-meets_at : goal.returns-then-meets_at
returns-then-meets_at c =
    on_ok_weaker c.push.result
    (gains_like (λ key. key ≡ (c.args.spot.number, c.args.number, c.args.spot.at))
    (IsInsideKey c.args.entries.now c.args.left.now c.args.number c.args.spot) c.args.keys.now.items c.push.new.keys.items
    (λ key e. (omega arith, e, c.meets_at.ensures.0 c.if-meets_at.true)) (λ key w. w.1))
    c.push.ensures
