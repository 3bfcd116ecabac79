use Rattle.std.proofs.Common.{◌≡◌, length}
use Rattle.swreq_machine.specs.swreq_param.Tables.{Extends}
use Rattle.swreq_check.specs.Listing.{wants}
use Rattle.swreq_check.specs.Made.{AreLinesKept}
use Rattle.swreq_check.specs.Passed.{HasPassed, rules_of, world_of}
use Rattle.swreq_check.specs.Told.{MinimisingAllTells, Tells}
use Rattle.swreq_check.proofs.minimising.minimised_lines.Given as goal

abbrev pub invariant-loop-k : goal.invariant-loop-k
invariant-loop-k g l =
    let w = world_of l.initial.table l.l.passed in
    Extends l.initial.table l.table × HasPassed l.table l.l.passed
    × Tells (MinimisingAllTells l.l.passed.limits w l.l.content (rules_of l.l.passed)) (g.W.Watch.told l.initial.watch)
    (g.W.Watch.told l.watch)
    × AreLinesKept w (wants l.l) l.all.items × (length l.all.items ≡ l.k)
