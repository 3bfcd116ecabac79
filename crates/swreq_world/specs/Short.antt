-- Lists of a world that are short.
use Rattle.std.specs.Prelude.{◌<◌, ◌^◌, All, length}
use Rattle.swreq_world.specs.Worlds.{WorldOver}

-- Numbers of 32 bits count the requirements of each protocol and of each signature, the signatures and the queries.
pub record IsShort {R Q : Type 0} (w : WorldOver R Q) : Type 0 where
  pub protocols : All (λ rs. length rs < 2 ^ 32) w.requirements
  pub lists : All (λ g. length g.requirements < 2 ^ 32) w.signatures
  pub signatures : length w.signatures < 2 ^ 32
  pub queries : length w.queries < 2 ^ 32
