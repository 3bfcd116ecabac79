use Rattle.std.proofs.Common.{ℕ, ◌<◌, sym, subst}
use Rattle.std.proofs.lemmas.Result.{on_ok_weaker}
use Rattle.swreq_trie.specs.declared.spots.Spot.{Spot}
use Rattle.swreq_trie.specs.Marks.{Holds, IsListed}
use Rattle.swreq_trie.specs.Places.{IsOnto}
use Rattle.swreq_trie.specs.Keys.{Gains, IsInsideKey, place_of}
use Rattle.swreq_trie.proofs.Collecting.{gains_none, gains_like}
use Rattle.swreq_trie.proofs.Listed.{no_insides, inside_listed, listed_inside}
use Rattle.swreq_trie.proofs.trie.Trie.add_onto_insides.Goals as goal

pub returns-in-None : goal.returns-in-None
returns-in-None c =
    let t = c.self.inside in let left = c.args.left.now in let number = c.args.number in let keys = c.args.keys.now.items in
    subst (λ stored. Gains (λ key. (k : ℕ) × (at : ℕ) × (0 < at) × IsOnto stored left number k at (place_of key)) keys keys) c.self.view_is
    (gains_none (λ key. (k : ℕ) × (at : ℕ) × (0 < at) × IsOnto t.entries.items left number k at (place_of key)) keys
    (λ key o.
    no_insides t.edges t.ends.items t.passing.items t.inside.items t.lengths t.entries.items c.self.invariant left number c.requires _ key
    c.in-None.ensures.found o))

pub returns-in-Some : goal.returns-in-Some
returns-in-Some c =
    let t = c.self.inside in let left = c.args.left.now in let number = c.args.number in
    let old = c.args.keys.now.items in let new = c.add_insides.new.keys.items in let node = c.in-Some.node in
    let is = c.deref-in-Some.ensures.value in
    on_ok_weaker c.add_insides.result
    (λ g.
    subst (λ stored. Gains (λ key. (k : ℕ) × (at : ℕ) × (0 < at) × IsOnto stored left number k at (place_of key)) old new) c.self.view_is
    (gains_like (λ key. (spot : Spot) × Holds c.spots_of.result.now spot × IsInsideKey t.entries.items left number spot key)
    (λ key. (k : ℕ) × (at : ℕ) × (0 < at) × IsOnto t.entries.items left number k at (place_of key)) old new
    (λ key w. listed_inside t.edges t.ends.items t.passing.items t.inside.items t.lengths t.entries.items c.self.invariant left
    number c.requires _ key node
    c.in-Some.ensures.found (w.0, subst (λ x. IsListed x node w.0) is (c.spots_of.ensures.only w.0 w.1), w.2))
    (λ key o. (let r = inside_listed t.edges t.ends.items t.passing.items t.inside.items t.lengths t.entries.items c.self.invariant left
    number c.requires _ key node
    c.in-Some.ensures.found o in (r.0, c.spots_of.ensures.all r.0 (subst (λ x. IsListed x node r.0) (sym is) r.1), r.2)))
    (subst (λ stored. Gains (λ key. (spot : Spot) × Holds c.spots_of.result.now spot × IsInsideKey stored left number spot key) old new)
    c.deref.ensures.value g)))
    c.add_insides.ensures
