use Rattle.swreq_lexicon.proofs.lexicon.names_of.Goals as goal

pub returns : goal.returns
returns c = record { sorted = c.len-count.ensures.sorted; same = c.in_ok-names.ensures }
