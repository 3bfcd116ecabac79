use Rattle.std.proofs.Common.{length, ◌≡◌, ◌<◌, rules, slice_get, Some}
use Rattle.swreq_param.proofs.TermsOfEntries.{in_table, entry_is}
use Rattle.swreq_param.proofs.table.ParamTable.entry.Goals as goal

pub unreachable-requires : goal.unreachable-requires
unreachable-requires c =
    let h : c.args.t.place < length c.self.inside.entries.keys =
    in_table c.self.inside.entries.keys c.args.self.now c.args.t c.self.view_is c.requires in
    search rules

pub returns : goal.returns
returns c =
    let h : slice_get c.self.inside.entries.keys c.args.t.place ≡ Some c.in-Some.entry.now = search rules in
    rw (← c.self.view_is) (entry_is c.self.inside.entries.keys c.args.t c.in-Some.entry.now c.self.invariant h)
