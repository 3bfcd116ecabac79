use Rattle.swreq_evidence_tests.proofs.printed.put_by.Goals as goal

pub put_of-requires-clause-machine : goal.put_of-requires-clause-machine
put_of-requires-clause-machine c =
    let found = c.in_ok-machine.ensures in
    record { signature = found.signature; machine = found.machine; params = found.params }
