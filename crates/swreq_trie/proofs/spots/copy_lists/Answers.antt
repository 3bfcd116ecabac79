use Rattle.std.proofs.Common.{◌≡◌, [], get_or, ◌∙◌, subst, sym, arith}
use Rattle.swreq_trie.specs.Marks.{AreCopies}
use Rattle.swreq_trie.proofs.Marks.{no_copies, copies_more, all_copies}
use Rattle.swreq_trie.proofs.spots.copy_lists.Goals as goal

pub loop-list-init : goal.loop-list-init
loop-list-init c = subst (AreCopies []) (sym c.in_ok-copies.ensures.items) no_copies

pub loop-list-preserved : goal.loop-list-preserved
loop-list-preserved c =
    let lists = c.args.lists.now in
    let is = c.list-item.is in
    let read : c.list-item.result ≡ get_or lists c.loop-list.list-index c.list-item.result = cc in
    copies_more lists c.loop-list.copies.items c.push.new.self.items c.loop-list.list-index c.list-item.result
    c.in_ok-from_slice.field-0 c.loop-list-test.true
    c.loop-list.invariant
    (c.in_ok-from_slice.ensures.items ∙ c.deref.ensures.value ∙ (λ i. (read i).items))
    c.in_ok-push.ensures.items

pub returns : goal.returns
returns c = all_copies c.args.lists.now c.loop-list.copies.items c.loop-list.list-index (omega arith) c.loop-list.invariant
