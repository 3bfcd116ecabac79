use Rattle.swreq_print.proofs.laws.signatures_of_a_text_are_told_apart.Goals as goal

pub returns-clause-params : goal.returns-clause-params
returns-clause-params c s x params others rs qs stands is =
    c.texts_tell_signatures_apart.ensures.params x params others rs qs (c.names_tell_ids_apart.ensures s x stands is)

pub returns-clause-requirements : goal.returns-clause-requirements
returns-clause-requirements c s x params others rs qs stands is =
    c.texts_tell_signatures_apart.ensures.requirements x params others rs qs (c.names_tell_ids_apart.ensures s x stands is)
