use Rattle.std.proofs.Common.{◌≡◌, arith}
use Rattle.std.proofs.lemmas.Result.{on_ok_weaker}
use Rattle.swreq_trie.specs.Keys.{IsFromKey}
use Rattle.swreq_trie.proofs.Collecting.{gains_like}
use Rattle.swreq_trie.proofs.overlaps.add_from_one.Goals as goal

pub returns-then-is_ended : goal.returns-then-is_ended
returns-then-is_ended c =
    on_ok_weaker c.push.result
    (gains_like (λ key. key ≡ (c.args.number, c.args.spot.number, c.args.at))
    (IsFromKey c.args.number c.args.at c.args.long c.args.depth c.args.spot) c.args.keys.now.items c.push.new.keys.items
    (λ key e. (omega arith, e, c.is_ended.ensures.0 c.if-is_ended.true)) (λ key w. w.1))
    c.push.ensures
