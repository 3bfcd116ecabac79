use Rattle.std.proofs.Common.{arith}
use Rattle.swreq_rounds.specs.swreq_param.Tables.{term_at}
use Rattle.swreq_symbols.proofs.Giving.{none_at_all}
use Rattle.swreq_valid.specs.ByReduction.{ReducesConformance}
use Rattle.swreq_valid.proofs.by_reduction.has_name.Goals as goal

pub returns : goal.returns
returns c = (
  (λ h. cc),
  λ g. absurd (none_at_all c.args.by.now.text.world.now.lexicon (ReducesConformance c.args.by.now.text.world.now.lexicon
      c.args.by.now.rules.now c.args.by.now.over (term_at c.args.by.now.text.table.now c.args.subject)) c.args.name c.loop-rank.rank
      (let a = c.loop-rank-test.false in let b = c.associated-rank-end.ensures in omega (arith, a, b)) c.loop-rank.invariant g.0 g.1),
)
