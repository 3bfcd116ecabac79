use Rattle.std.proofs.Common.{◌≡◌, map, take, unwrap_or}
use Rattle.swreq_names.specs.Spaces.{place}
use Rattle.swreq_lexicon.proofs.protocols.places.Given as goal

abbrev pub invariant-loop-rank : goal.invariant-loop-rank
invariant-loop-rank l = l.places.items ≡ map (λ name. unwrap_or (place l.resolved.declared.protocols name) 0) (take l.rank l.ranks)
