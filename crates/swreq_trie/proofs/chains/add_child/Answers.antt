use Rattle.std.proofs.Common.{◌≡◌, ℕ, length, subst, sym, ◌∙◌, arith, MatchOption}
use Rattle.swreq_trie.specs.Marks.{EndsAt}
use Rattle.swreq_trie.specs.Chains.{AreChained}
use Rattle.swreq_trie.proofs.Linked.{chained_same, chained_more, grown_more, child_more}
use Rattle.swreq_trie.proofs.chains.add_child.Goals as goal

pub returns-in_err-make_room-clause-chained : goal.returns-in_err-make_room-clause-chained
returns-in_err-make_room-clause-chained c =
    chained_same c.args.links.now.items c.args.heads.now.items c.make_room.new.ends.items c.make_room.ensures.same c.requires.chained

pub returns-in_err-number-clause-chained : goal.returns-in_err-number-clause-chained
returns-in_err-number-clause-chained c =
    chained_same c.args.links.now.items c.args.heads.now.items c.make_room.new.ends.items c.make_room.ensures.same c.requires.chained

pub returns-in_err-push-clause-chained : goal.returns-in_err-push-clause-chained
returns-in_err-push-clause-chained c =
    subst (λ links. AreChained links c.make_room.new.ends.items) (sym c.in_err-push.ensures.items)
    (chained_same c.args.links.now.items c.args.heads.now.items c.make_room.new.ends.items c.make_room.ensures.same c.requires.chained)

pub returns-clause-child : goal.returns-clause-child
returns-clause-child c =
    let count : c.len-place.result ≡ length c.args.links.now.items = omega (arith, c.len-place.ensures, c.args.links.now.ok.0) in
    rw (c.in_ok-push.ensures.items, count)
    (child_more c.args.links.now.items c.args.heads.now.items c.requires.chained c.args.edge c.end_at-before.result)

pub returns-clause-grown : goal.returns-clause-grown
returns-clause-grown c =
    rw c.in_ok-push.ensures.items
    (grown_more c.args.links.now.items c.args.heads.now.items c.requires.chained c.args.edge c.end_at-before.result)

pub returns-clause-chained : goal.returns-clause-chained
returns-clause-chained c =
    let links = c.args.links.now.items in
    let heads = c.make_room.new.ends.items in
    let chain = c.chain-chain.result in
    let before = c.end_at-before.result in
    let count : c.len-place.result ≡ length links = omega (arith, c.len-place.ensures, c.args.links.now.ok.0) in
    let found = subst (λ ends. MatchOption before ((number : ℕ) → EndsAt ends chain number → ⊥) (λ number. EndsAt ends chain number))
    c.deref.ensures.value c.end_at-before.ensures in
    rw c.in_ok-push.ensures.items
    (chained_more links heads
    (chained_same links c.args.heads.now.items heads c.make_room.ensures.same c.requires.chained) c.args.edge before chain
    c.chain-chain.ensures found c.in_ok-number.number (c.in_ok-number.ensures ∙ count) c.in_ok-make_room.ensures.room c.requires.new)
