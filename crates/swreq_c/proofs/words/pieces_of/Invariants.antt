use Rattle.std.proofs.Common.{◌≡◌, map, string_bytes}
use Rattle.swreq_c.proofs.words.pieces_of.Given as goal

abbrev pub invariant-loop-word : goal.invariant-loop-word
invariant-loop-word l = map string_bytes l.words.items ≡ map (λ piece. piece.now) l.yielded
