use Rattle.std.proofs.Common.{◌≡◌, ◌++◌, drop}
use Rattle.swreq_reqsig.specs.Marks.{marked}
use Rattle.swreq_reqsig.proofs.reaching.marked.Given as goal

abbrev pub invariant-loop-k : goal.invariant-loop-k
invariant-loop-k l =
    l.v.items ++ marked (drop l.k l.places) (drop l.k l.selection.flags.now) l.marks
    ≡ marked l.selection.setting.places.now l.selection.flags.now l.marks
