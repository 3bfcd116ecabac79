use Rattle.swreq_subst.proofs.ByTable.{refusals_by_table, say_by_table}
use Rattle.swreq_subst.proofs.laws.calls_by_table.Goals as goal

pub returns-clause-say : goal.returns-clause-say
returns-clause-say c = say_by_table

pub returns-clause-refusals : goal.returns-clause-refusals
returns-clause-refusals c = refusals_by_table
