use Rattle.std.proofs.Common.{subst}
use Rattle.std.proofs.lemmas.Result.{on_ok_weaker}
use Rattle.swreq_trie.specs.Keys.{AreTheirPlaces}
use Rattle.swreq_trie.proofs.InOrder.{collected}
use Rattle.swreq_trie.proofs.trie.Trie.write_overlaps.Goals as goal

pub returns : goal.returns
returns c =
    on_ok_weaker c.write_places.result
    (λ of. collected c.args.self.now c.args.left.now c.args.number c.collect.new.keys.items c.sort_unstable.new.self.items
    c.write_places.new.places.items
    c.in_ok-collect.ensures c.sort_unstable.ensures.permutation
    (subst (λ keys. AreTheirPlaces keys c.write_places.new.places.items) c.deref.ensures.value of))
    c.write_places.ensures
