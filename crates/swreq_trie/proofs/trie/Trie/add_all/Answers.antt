use Rattle.std.proofs.lemmas.Result.{on_ok_weaker}
use Rattle.swreq_rule.proofs.Overlapping.{overlap_within}
use Rattle.swreq_trie.specs.Keys.{place_of}
use Rattle.swreq_trie.proofs.Collecting.{all_gained}
use Rattle.swreq_trie.proofs.Listed.{from_is_within}
use Rattle.swreq_trie.proofs.trie.Trie.add_all.Goals as goal

pub returns : goal.returns
returns c =
    let stored = c.args.self.now in let left = c.args.left.now in let number = c.args.number in
    let some = c.add_onto_begins.ensures.some in
    on_ok_weaker c.add_all_own.result
    (all_gained stored left number (λ k at key. from_is_within stored left number some k at (place_of key))
    (λ at key o. (overlap_within left left at o.0).1)
    c.args.keys.now.items c.add_onto_begins.new.keys.items c.add_onto_insides.new.keys.items c.add_all_from.new.keys.items
    c.add_all_own.new.keys.items
    c.in_ok-add_onto_begins.ensures.gains
    c.in_ok-add_onto_insides.ensures c.in_ok-add_all_from.ensures)
    c.add_all_own.ensures
