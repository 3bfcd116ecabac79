use Rattle.std.proofs.Common.{◌+◌, ◌-◌, ◌*◌}
use Rattle.swreq_minimal.proofs.dropping.+halves.Given as goal

abbrev pub decreases-drop_halves : goal.decreases-drop_halves
decreases-drop_halves g l = 3 * (l.span.to - l.span.from)

abbrev pub decreases-drop_in : goal.decreases-drop_in
decreases-drop_in g l = 3 * (l.span.to - l.span.from) + 1

abbrev pub decreases-drop_half : goal.decreases-drop_half
decreases-drop_half g l = 3 * (l.half.span.to - l.half.span.from) + 2
