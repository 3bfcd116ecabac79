use Rattle.std.proofs.Common.{arith, length, ap}
use Rattle.swreq_param.proofs.TermsOfEntries.{length_terms, has_bases}
use Rattle.swreq_param.proofs.DistinctEntries.{are_distinct}
use Rattle.swreq_param.proofs.table.ParamTable.len.Goals as goal

pub returns-clause-len : goal.returns-clause-len
returns-clause-len c = omega (arith, c.len.ensures.len, length_terms c.self.inside.entries.keys, ap length c.self.view_is)

pub returns-clause-distinct : goal.returns-clause-distinct
returns-clause-distinct c = are_distinct c.self.inside.entries.keys c.args.self.now c.self.invariant c.len.ensures.unique c.self.view_is

pub returns-clause-bases : goal.returns-clause-bases
returns-clause-bases c = has_bases c.self.inside.entries.keys c.args.self.now c.self.invariant c.self.view_is
