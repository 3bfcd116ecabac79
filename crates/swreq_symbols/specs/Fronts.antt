-- The type parameters with whose members a type parameter begins.
use Rattle.std.specs.Prelude.{ℕ, zero, suc}
use Rattle.swreq_correspondence.specs.swreq_param.Terms.{Term}
use Rattle.swreq_correspondence.specs.swreq_param.Terms.Term.{Generic, Member}

-- T without its last n members
abbrev pub without : ℕ → Term → Term
without zero t = t
without (suc n) (Generic g) = Generic g
without (suc n) (Member t x) = without n t
