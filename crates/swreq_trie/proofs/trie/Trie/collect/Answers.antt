use Rattle.std.proofs.Common.{subst}
use Rattle.std.proofs.lemmas.Result.{on_ok_weaker}
use Rattle.swreq_trie.specs.Places.{IsPlace}
use Rattle.swreq_trie.specs.Keys.{Gains, place_of}
use Rattle.swreq_trie.proofs.trie.Trie.collect.Goals as goal

pub returns : goal.returns
returns c =
    on_ok_weaker c.add_all.result
    (subst (λ keys. Gains (λ key. IsPlace c.args.self.now c.args.left.now c.args.number (place_of key)) keys c.add_all.new.keys.items)
    c.clear.ensures.items)
    c.add_all.ensures
