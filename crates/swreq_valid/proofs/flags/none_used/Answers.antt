use Rattle.swreq_valid.proofs.flags.none_used.Goals as goal

pub returns : goal.returns
returns c = c.in_ok-flags.ensures.items_if_clones_equal (λ y e. e)
