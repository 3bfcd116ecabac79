use Rattle.std.proofs.Common.{arith}
use Rattle.swreq_correspondence.specs.swreq_param.Tables.{term_at}
use Rattle.swreq_symbols.proofs.Fronts.{base_without, not_generic}
use Rattle.swreq_symbols.proofs.walk.without.Goals as goal

pub unreachable-requires : goal.unreachable-requires
unreachable-requires c =
    not_generic c.loop.counter c.args.count (term_at c.args.table.now c.args.t) (term_at c.args.table.now c.loop.at) c.loop.invariant.1
    (omega arith) c.requires.count c.in-None.ensures

pub loop-preserved : goal.loop-preserved
loop-preserved c = (
  c.in-Some.ensures.0,
  base_without c.loop.counter _ (term_at c.args.table.now c.args.t) (term_at c.args.table.now c.loop.at) _ _ c.loop.invariant.1
      c.in-Some.ensures.1 (omega arith),
)
