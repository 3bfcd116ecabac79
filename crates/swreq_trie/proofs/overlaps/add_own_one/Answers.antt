use Rattle.std.proofs.Common.{◌≡◌}
use Rattle.std.proofs.lemmas.Result.{on_ok_weaker}
use Rattle.swreq_trie.specs.Keys.{IsOwnKey}
use Rattle.swreq_trie.proofs.Collecting.{gains_like}
use Rattle.swreq_trie.proofs.overlaps.add_own_one.Goals as goal

pub returns-then-overlaps : goal.returns-then-overlaps
returns-then-overlaps c =
    on_ok_weaker c.push.result
    (gains_like (λ key. key ≡ (c.args.number, c.args.number, c.args.at))
    (IsOwnKey c.args.left.now c.args.number c.args.at) c.args.keys.now.items c.push.new.keys.items
    (λ key e. (c.overlaps.ensures.0 c.if-overlaps.true, e)) (λ key w. w.1))
    c.push.ensures
