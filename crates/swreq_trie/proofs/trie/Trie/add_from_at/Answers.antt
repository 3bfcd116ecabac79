use Rattle.std.proofs.Common.{ℕ, ◌-◌, take, drop, length, subst}
use Rattle.std.proofs.lemmas.Result.{on_ok_weaker}
use Rattle.swreq_rule.proofs.swreq_word.Cuts.{whole_rest}
use Rattle.swreq_trie.specs.declared.spots.Spot.{Spot}
use Rattle.swreq_trie.specs.declared.walk.Met.{Met}
use Rattle.swreq_trie.specs.Marks.{Holds, IsListed}
use Rattle.swreq_trie.specs.Walk.{AreMet}
use Rattle.swreq_trie.specs.Places.{IsFrom}
use Rattle.swreq_trie.specs.Keys.{Gains, IsFromKey, place_of}
use Rattle.swreq_trie.proofs.Collecting.{gains_like}
use Rattle.swreq_trie.proofs.Listed.{from_listed, listed_from}
use Rattle.swreq_trie.proofs.trie.Trie.add_from_at.Goals as goal

pub returns : goal.returns
returns c =
    let t = c.self.inside in let left = c.args.left.now in let number = c.args.number in let at = c.args.at in
    let old = c.args.keys.now.items in let new = c.add_from_nodes.new.keys.items in let nodes = c.find_met.new.nodes.items in
    let met : AreMet t.edges t.ends.items (drop at left) nodes = subst (λ w. AreMet t.edges t.ends.items w nodes) (whole_rest left at)
    (subst (λ e. AreMet t.edges e (take (length left - at) (drop at left)) nodes) c.deref.ensures.value c.in_ok-find_met.ensures) in
    on_ok_weaker c.add_from_nodes.result
    (λ g. subst (λ stored. Gains (λ key. (k : ℕ) × IsFrom stored left number k at (place_of key)) old new) c.self.view_is
    (gains_like
    (λ key.
    (m : Met) × Holds nodes m × ((spot : Spot) × IsListed t.passing.items m.node spot × IsFromKey number at (length left) m.depth spot key))
    (λ key. (k : ℕ) × IsFrom t.entries.items left number k at (place_of key)) old new
    (λ key w. listed_from t.edges t.ends.items t.passing.items t.inside.items t.lengths t.entries.items c.self.invariant left number at
    c.requires nodes met key w)
    (λ key o. from_listed t.edges t.ends.items t.passing.items t.inside.items t.lengths t.entries.items c.self.invariant left number at
    c.requires nodes met key o)
    (subst (λ p. Gains (λ key.
    (m : Met) × Holds nodes m × ((spot : Spot) × IsListed p m.node spot × IsFromKey number at (length left) m.depth spot key)) old new)
    c.deref-2.ensures.value
    (subst (λ x. Gains (λ key. (m : Met) × Holds x m
    × ((spot : Spot) × IsListed c.deref-2.result.now m.node spot × IsFromKey number at (length left) m.depth spot key)) old new)
    c.deref-3.ensures.value g))))
    c.add_from_nodes.ensures
