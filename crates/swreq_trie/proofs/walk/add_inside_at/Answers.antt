use Rattle.std.proofs.Common.{◌≡◌, sym, subst}
use Rattle.std.proofs.lemmas.Result.{on_ok_weaker}
use Rattle.swreq_trie.specs.Paths.{IsChild}
use Rattle.swreq_trie.proofs.Marks.{only_like}
use Rattle.swreq_trie.proofs.walk.add_inside_at.Goals as goal

pub returns-clause-spot : goal.returns-clause-spot
returns-clause-spot c = on_ok_weaker c.add_spot.result (λ h. (c.in_ok-node.node, c.in_ok-node.ensures.child, h)) c.add_spot.ensures.added

pub returns-clause-only : goal.returns-clause-only
returns-clause-only c =
    let new = c.make_child.new.self in
    only_like (λ n s. (n ≡ c.in_ok-node.node) × (s ≡ c.args.spot)) (λ n s. (s ≡ c.args.spot) × IsChild new 0 c.args.symbol n)
    c.args.inside.now.items c.add_spot.new.lists.items
    (λ n s i. (i.1, subst (λ m. IsChild new 0 c.args.symbol m) (sym i.0) c.in_ok-node.ensures.child)) c.add_spot.ensures.only
