use Rattle.std.proofs.Common.{◌∙◌, subst}
use Rattle.swreq_trie.specs.Marks.{AreCopies}
use Rattle.swreq_trie.proofs.Index.{index_copied}
use Rattle.swreq_trie.proofs.trie.Trie.copy.Goals as goal

pub invariant_of-result : goal.invariant_of-result
invariant_of-result c =
    let t = c.self.inside in
    let passing = c.in_ok-passing.passing.items in
    let inside = c.in_ok-inside.inside.items in
    index_copied t.edges c.in_ok-edges.edges t.ends.items c.in_ok-ends.ends.items t.passing.items passing t.inside.items inside t.lengths
    t.entries.items c.in_ok-entries.entries.items c.self.invariant
    c.in_ok-edges.ensures
    (c.in_ok-ends.ensures.items ∙ c.deref-2.ensures.value)
    (subst (λ lists. AreCopies lists passing) c.deref-3.ensures.value c.in_ok-passing.ensures)
    (subst (λ lists. AreCopies lists inside) c.deref-4.ensures.value c.in_ok-inside.ensures)
    (c.in_ok-entries.ensures ∙ c.deref.ensures.value)
