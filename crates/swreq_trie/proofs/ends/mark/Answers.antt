use Rattle.std.proofs.Common.{◌≡◌, length, refl, subst, Some}
use Rattle.std.specs.List.{slice_get}
use Rattle.std.proofs.lemmas.Option.{slice_get_read}
use Rattle.swreq_trie.proofs.Marks.{marked_first}
use Rattle.swreq_trie.proofs.ends.mark.Goals as goal

pub returns-in-None : goal.returns-in-None
returns-in-None c =
    let ends = c.args.ends.now.items in
    marked_first ends _ c.args.node c.args.number c.requires
    (subst (λ x. slice_get ends c.args.node ≡ Some x) c.in-None.is
    (slice_get_read ends (length ends) c.args.node c.index.result.now refl c.requires c.index.ensures))
    refl
