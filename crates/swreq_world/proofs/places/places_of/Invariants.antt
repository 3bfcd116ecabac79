use Rattle.std.proofs.Common.{◌≡◌, ℕ, ◌≤◌, None, get_or, length, drop}
use Rattle.std.specs.List.{position_from}
use Rattle.swreq_lexicon.specs.swreq_names.declared.signature.Signature.TheVariants.{Struct, Function}
use Rattle.swreq_lowering.specs.Signatures.{is_signature}
use Rattle.swreq_world.proofs.places.places_of.Given as goal

abbrev pub invariant-loop-at : goal.invariant-loop-at
invariant-loop-at l = record {
  within : l.at ≤ length l.order;
  structs : (k : ℕ) → get_or l.places.structs.items k None ≡ position_from (is_signature (Struct k)) l.at (drop l.at l.order);
  functions : (k : ℕ) → get_or l.places.functions.items k None ≡ position_from (is_signature (Function k)) l.at (drop l.at l.order);
}

abbrev pub decreases-loop-at : goal.decreases-loop-at
decreases-loop-at l = l.at
