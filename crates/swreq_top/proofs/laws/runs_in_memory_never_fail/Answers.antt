use Rattle.std.proofs.Common.{◌∙◌}
use Rattle.swreq_top.proofs.Contracts.{five_write_failed, four_read_failed, never_risen}
use Rattle.swreq_top.proofs.laws.runs_in_memory_never_fail.Goals as goal

pub returns-clause-read : goal.returns-clause-read
returns-clause-read c r left rest is before after four =
    let none = c.some_streams_never_fail.ensures.source in
    never_risen r.before.read_faults r.after.read_faults (before ∙ none left) (after ∙ none rest) (four_read_failed r is.end four)

pub returns-clause-write : goal.returns-clause-write
returns-clause-write c r old new is before after five =
    let none = c.some_streams_never_fail.ensures.sink in
    never_risen r.before.write_faults r.after.write_faults (before ∙ none old) (after ∙ none new) (five_write_failed r is.end five)
