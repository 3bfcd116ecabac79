use Rattle.swreq_names.proofs.declarers.Declarers.of.Goals as goal

pub returns : goal.returns
returns c =
    record { all = λ j name h. (c.of-ranks.ensures.same name).1 (c.in_ok-all_names.ensures j name h); listed = c.in_ok-lists.ensures }
