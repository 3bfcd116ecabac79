use Rattle.std.proofs.Common.{◌≡◌, arith}
use Rattle.std.proofs.lemmas.Result.{on_ok_weaker}
use Rattle.swreq_trie.specs.Keys.{IsBeginKey}
use Rattle.swreq_trie.proofs.Collecting.{gains_like}
use Rattle.swreq_trie.proofs.overlaps.add_begin.Goals as goal

pub returns-then-spot-number : goal.returns-then-spot-number
returns-then-spot-number c =
    on_ok_weaker c.push.result
    (gains_like (λ key. key ≡ (c.args.spot.number, c.args.number, 0))
    (IsBeginKey c.args.number c.args.spot) c.args.keys.now.items c.push.new.keys.items
    (λ key e. (omega arith, e)) (λ key w. w.1))
    c.push.ensures
