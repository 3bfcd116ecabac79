use Rattle.swreq_homotopy.specs.Search.{NoneShowsBefore}
use Rattle.swreq_homotopy.proofs.showing.place_in.Given as goal

abbrev pub invariant-loop-at : goal.invariant-loop-at
invariant-loop-at l = NoneShowsBefore l.keep l.may l.steps l.at
