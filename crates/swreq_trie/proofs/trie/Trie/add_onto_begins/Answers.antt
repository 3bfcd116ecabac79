use Rattle.std.proofs.Common.{ℕ, sym, subst}
use Rattle.std.proofs.lemmas.Result.{on_ok_weaker}
use Rattle.swreq_trie.specs.declared.spots.Spot.{Spot}
use Rattle.swreq_trie.specs.Marks.{Holds, IsListed}
use Rattle.swreq_trie.specs.Stored.{NoneEmpty}
use Rattle.swreq_trie.specs.Places.{IsOnto}
use Rattle.swreq_trie.specs.Keys.{Gains, IsBeginKey, place_of}
use Rattle.swreq_trie.proofs.Collecting.{gains_none, gains_like}
use Rattle.swreq_trie.proofs.Listed.{no_begins, begin_listed, listed_begin}
use Rattle.swreq_trie.proofs.trie.Trie.add_onto_begins.Goals as goal

pub returns-in-None-clause-gains : goal.returns-in-None-clause-gains
returns-in-None-clause-gains c =
    let t = c.self.inside in let left = c.args.left.now in let number = c.args.number in let keys = c.args.keys.now.items in
    subst (λ stored. Gains (λ key. (k : ℕ) × IsOnto stored left number k 0 (place_of key)) keys keys) c.self.view_is
    (gains_none (λ key. (k : ℕ) × IsOnto t.entries.items left number k 0 (place_of key)) keys
    (no_begins t.edges t.ends.items t.passing.items t.inside.items t.lengths t.entries.items c.self.invariant left number
    c.requires c.in-None.ensures))

pub returns-in-Some-clause-gains : goal.returns-in-Some-clause-gains
returns-in-Some-clause-gains c =
    let t = c.self.inside in let left = c.args.left.now in let number = c.args.number in
    let old = c.args.keys.now.items in let new = c.add_begins.new.keys.items in let node = c.in-Some.node in
    let is = c.deref.ensures.value in
    on_ok_weaker c.add_begins.result
    (λ g. subst (λ stored. Gains (λ key. (k : ℕ) × IsOnto stored left number k 0 (place_of key)) old new) c.self.view_is
    (gains_like (λ key. (spot : Spot) × Holds c.spots_of.result.now spot × IsBeginKey number spot key)
    (λ key. (k : ℕ) × IsOnto t.entries.items left number k 0 (place_of key)) old new
    (λ key w.
    listed_begin t.edges t.ends.items t.passing.items t.inside.items t.lengths t.entries.items c.self.invariant left number c.requires node
    c.in-Some.ensures key (w.0, subst (λ x. IsListed x node w.0) is (c.spots_of.ensures.only w.0 w.1), w.2))
    (λ key o. (let r =
    begin_listed t.edges t.ends.items t.passing.items t.inside.items t.lengths t.entries.items c.self.invariant left number c.requires node
    c.in-Some.ensures key o in (r.0, c.spots_of.ensures.all r.0 (subst (λ x. IsListed x node r.0) (sym is) r.1), r.2)))
    g))
    c.add_begins.ensures

pub returns-in-None-clause-some : goal.returns-in-None-clause-some
returns-in-None-clause-some c = subst NoneEmpty c.self.view_is c.self.invariant.some

pub returns-in-Some-clause-some : goal.returns-in-Some-clause-some
returns-in-Some-clause-some c = subst NoneEmpty c.self.view_is c.self.invariant.some
