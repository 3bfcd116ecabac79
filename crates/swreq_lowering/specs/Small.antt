-- Numbers that fit 32 bits.
use Rattle.std.specs.Prelude.{◌<◌, ◌^◌, length}
use Rattle.swreq_lexicon.specs.swreq_names.declared.signature.Signature.{Signature}
use Rattle.swreq_lexicon.specs.swreq_names.Spaces.{Spaces, outer_params, own_params}

-- The generic parameters of each signature are fewer than 2^32.
pub record HasFewParams (d : Spaces) : Type 0 where
  pub outer : (g : Signature) → length (outer_params d g) < 2 ^ 32
  pub own : (g : Signature) → length (own_params d g) < 2 ^ 32
