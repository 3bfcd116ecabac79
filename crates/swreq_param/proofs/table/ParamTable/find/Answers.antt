use Rattle.std.proofs.Common.{sym}
use Rattle.swreq_param.proofs.DistinctEntries.{each_once, found_at, stands_at, is_absent}
use Rattle.swreq_param.specs.declared.table.Entry.TheVariants.{Member}
use Rattle.swreq_param.proofs.table.ParamTable.find.Goals as goal

pub returns : goal.returns
returns c =
    stands_at c.self.inside.entries.keys c.args.self.now (Member c.args.base c.args.step)
    (record { place = c.in_ok-place.place }) c.self.invariant c.self.view_is
    (found_at c.self.inside.entries.keys (Member c.args.base c.args.step) c.in_ok-place.place (sym c.in_ok-place.ensures.index))

pub returns-in_err-place : goal.returns-in_err-place
returns-in_err-place c =
    rw c.from_residual.ensures (is_absent c.self.inside.entries.keys c.args.self.now (Member c.args.base c.args.step) c.self.invariant
    (each_once c.self.inside.entries.keys c.len-count.ensures.unique) c.self.view_is c.requires (sym c.in_err-place.ensures.found))
