use Rattle.std.proofs.Common.{◌≡◌, sym, subst}
use Rattle.swreq_trie.specs.Paths.{IsChild}
use Rattle.swreq_trie.proofs.Marks.{only_like}
use Rattle.swreq_trie.proofs.walk.make_step.Goals as goal

pub returns-in_err-add_spot-clause-only : goal.returns-in_err-add_spot-clause-only
returns-in_err-add_spot-clause-only c =
    let new = c.make_child.new.self in
    only_like (λ n s. (n ≡ c.in_ok-child.child) × (s ≡ c.args.begin)) (λ n s. (s ≡ c.args.begin) × IsChild new c.args.node c.args.symbol n)
    c.args.passing.now.items c.add_spot.new.lists.items
    (λ n s i. (i.1, subst (λ m. IsChild new c.args.node c.args.symbol m) (sym i.0) c.in_ok-child.ensures.child)) c.add_spot.ensures.only

pub returns-clause-only : goal.returns-clause-only
returns-clause-only c =
    let new = c.make_child.new.self in
    only_like (λ n s. (n ≡ c.in_ok-child.child) × (s ≡ c.args.begin)) (λ n s. (s ≡ c.args.begin) × IsChild new c.args.node c.args.symbol n)
    c.args.passing.now.items c.add_spot.new.lists.items
    (λ n s i. (i.1, subst (λ m. IsChild new c.args.node c.args.symbol m) (sym i.0) c.in_ok-child.ensures.child)) c.add_spot.ensures.only
