use Rattle.std.proofs.Common.{refl, ◌∷◌, []}
use Rattle.swreq_rounds.specs.swreq_derive.Derivation.TermRequirement.{Equals}
use Rattle.swreq_valid.specs.Sides.{IsValidSide, sides_at}
use Rattle.swreq_valid.proofs.FirstSide.{head_fails, one_first}
use Rattle.swreq_valid.proofs.laws.left_side_is_first.Goals as goal

pub returns : goal.returns
returns c f s t u left right at n h =
    let first = head_fails (IsValidSide f) (record { source = s; term = t; at = left })
    (record { source = s; term = u; at = right } ∷ []) left n refl in
    one_first (IsValidSide f) (sides_at s (Equals t u) left right) at left h first
