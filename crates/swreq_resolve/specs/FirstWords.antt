-- What a type may begin with.
use Rattle.std.specs.Prelude.{ℕ, Bool, List}
use Rattle.swreq_closure.specs.Chains.{leads}
use Rattle.swreq_resolve.specs.declared.check.FirstWords.{FirstWords}
use Rattle.swreq_resolve.specs.declared.check.FirstWords.TheVariants as words
use Rattle.swreq_names.specs.Spaces.{Spaces}
use Rattle.swreq_resolve.specs.Refusals.{begins_in_protocol, begins_in_signature}

abbrev pub begins : Spaces → FirstWords → List ℕ → Bool
begins d (words.Protocol inherits i) name = begins_in_protocol d (leads inherits.now) i name
begins d (words.Signature g) name = begins_in_signature d g name
