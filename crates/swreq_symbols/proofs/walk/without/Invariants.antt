use Rattle.std.proofs.Common.{◌≡◌}
use Rattle.swreq_correspondence.specs.swreq_param.Tables.{IsOf, term_at}
use Rattle.swreq_symbols.specs.Fronts.{without}
use Rattle.swreq_symbols.proofs.walk.without.Given as goal

abbrev pub invariant-loop : goal.invariant-loop
invariant-loop l = IsOf l.table l.at × (term_at l.table l.at ≡ without l.counter (term_at l.table l.fn.t))
