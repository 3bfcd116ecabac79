-- What minimised lists are wanted.
use Rattle.std.specs.Prelude.{ℕ, Bool}
use Rattle.swreq_check.specs.declared.listing.Minimising.{Minimising}
use Rattle.swreq_check.specs.Wanted.{wants_list}

-- whether the minimised list of the signature at this place is wanted
abbrev pub wants : Minimising → ℕ → Bool
wants l = wants_list l.content l.passed.world.now.queries
