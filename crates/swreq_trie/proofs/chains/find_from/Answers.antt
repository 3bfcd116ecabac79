use Rattle.std.proofs.Common.{sym, ◌∙◌, true≢false}
use Rattle.std.proofs.lemmas.Option.{slice_get-get_or}
use Rattle.swreq_trie.proofs.Linked.{fewer_left, left_before, place_within}
use Rattle.swreq_trie.proofs.chains.find_from.Goals as goal

pub back-smaller : goal.back-smaller
back-smaller c =
    let links = c.args.links.now in
    let place = c.in-Some.place in
    let within = place_within links c.args.edge c.back.last c.back.invariant place c.in-Some.is in
    fewer_left links c.args.edge c.back.last c.back.invariant place c.in-Some.is _
    (slice_get-get_or links place _ within) c.requires.linked

pub back-preserved : goal.back-preserved
back-preserved c =
    let links = c.args.links.now in
    let place = c.in-Some.place in
    let within = place_within links c.args.edge c.back.last c.back.invariant place c.in-Some.is in
    left_before links c.args.edge c.back.last c.back.invariant place c.in-Some.is _
    (slice_get-get_or links place _ within) c.requires.linked
    (λ same. true≢false (sym (c.is_same.ensures.1 same) ∙ c.if-is_same.false))
