use Rattle.std.proofs.Common.{refl, length, subst, arith}
use Rattle.std.proofs.lemmas.Option.{slice_get_read, slice_get_within}
use Rattle.swreq_trie.specs.Marks.{Holds}
use Rattle.swreq_trie.proofs.spots.spots_of.Goals as goal

pub returns-then-node-lists-clause-only : goal.returns-then-node-lists-clause-only
returns-then-node-lists-clause-only c spot h =
    let lists = c.args.lists.now in
    let list = c.index-lists-node.result in (
      list,
      slice_get_read lists (length lists) c.args.node list refl (omega arith) c.index-lists-node.is,
      subst (λ x. Holds x spot) c.as_slice.ensures.value h,
    )

pub returns-else-node-lists-clause-all : goal.returns-else-node-lists-clause-all
returns-else-node-lists-clause-all c spot h = absurd (let l = slice_get_within c.args.lists.now c.args.node h.0 h.1 in omega (arith, l))
