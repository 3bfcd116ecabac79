use Rattle.swreq_rounds.specs.swreq_param.Tables.{term_at}
use Rattle.swreq_rounds.specs.swreq_param.Terms.{member_count}
use Rattle.swreq_valid.proofs.by_reduction.+is_valid.Given as goal

abbrev pub decreases-is_valid : goal.decreases-is_valid
decreases-is_valid l = member_count (term_at l.by.now.text.table.now l.subject)
