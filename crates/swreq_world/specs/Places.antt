-- The places of signatures in written order.
use Rattle.std.specs.Prelude.{◌≡◌, ℕ, ◌≤◌, List, Option, None, slice_index_or}
use Rattle.swreq_lexicon.specs.swreq_names.declared.signature.Signature.{Signature}
use Rattle.swreq_lexicon.specs.swreq_names.declared.signature.Signature.TheVariants.{Struct, Function, Nested}
use Rattle.swreq_lowering.specs.Signatures.{place_in}

-- For each struct and each function at the top there is its place.
pub record ArePlaces (order : List Signature) (of_structs of_functions : List (Option ℕ)) : Type 0 where
  pub structs : (i : ℕ) → slice_index_or of_structs i None ≡ place_in order (Struct i)
  pub functions : (i : ℕ) → slice_index_or of_functions i None ≡ place_in order (Function i)

-- The number of a function within its struct is small.
abbrev pub IsSmall : Signature → Type 0
IsSmall (Struct i) = Unit {0}
IsSmall (Function i) = Unit {0}
IsSmall (Nested i j) = j ≤ 1048576
