use Rattle.std.proofs.Common.{◌++◌, subst}
use Rattle.std.proofs.lemmas.Result.{on_ok_weaker}
use Rattle.swreq_trie.specs.Keys.{AreTheirPlaces}
use Rattle.swreq_trie.proofs.InOrder.{collected}
use Rattle.swreq_trie.proofs.Both.{gained_of_both}
use Rattle.swreq_trie.proofs.trie.Trie.find_overlaps_over.Goals as goal

pub returns : goal.returns
returns c =
    let below = c.args.below.now in let own = c.args.self.now in let left = c.args.left.now in let number = c.args.number in
    on_ok_weaker c.write_places.result
    (λ of. collected (below ++ own) left number c.add_all.new.keys.items c.sort_unstable.new.self.items c.write_places.new.places.items
    (gained_of_both below own left number c.collect.new.keys.items c.add_all.new.keys.items c.in_ok-collect.ensures c.in_ok-add_all.ensures)
    c.sort_unstable.ensures.permutation (subst (λ keys. AreTheirPlaces keys c.write_places.new.places.items) c.deref.ensures.value of))
    c.write_places.ensures
