use Rattle.swreq_calling.proofs.asking.put_answer.Goals as goal

pub derivation_of-requires-clause-rounds : goal.derivation_of-requires-clause-rounds
derivation_of-requires-clause-rounds c = let m = c.in_ok-machine.ensures in let rounds = c.requires.ready.protocols.rounds in
    record { signature = c.requires.query.0; params = m.params; protocols = rounds; list = (_, m.rounds); machine = m.machine }

pub lines_text-requires : goal.lines_text-requires
lines_text-requires c = λ l h. rw c.lexicon.ensures ((rw c.in-Some.is at c.in_ok-lines.ensures.ids) l (rw c.deref.ensures.value at h))
