-- Lists that are kept.
use Rattle.std.specs.Prelude.{◌≡◌, ◌<◌, length, map}
use Rattle.swreq_world.specs.Worlds.{IdWorld, signature_at}
use Rattle.swreq_verify.specs.declared.listing.Listed.{Listed}

-- The signature is of the world, and the list is its own, without the places of sides.
pub record IsListOf (w : IdWorld) (l : Listed) : Type 0 where
  pub within : l.signature.place < length w.signatures
  pub list : l.list.items ≡ map (λ r. r.requirement) (signature_at w l.signature).requirements
