-- What is true of every run.
use Rattle.std.specs.Prelude.{◌≡◌, ◌⊎◌}
use Rattle.swreq_reply.specs.declared.outcome.Outcome.{Outcome}
use Rattle.swreq_top.specs.Headline.{Prints, SayAlike, SayDerivations, SayEqualLists, SayFailing, SayFamily, SayPaths, SayTheLeast, SayYesWhereImplied}
use Rattle.swreq_top.specs.Run.{IsAnswerable, IsEnd, IsRefusedRun, NothingFailed, Run}

pub record IsRun (r : Run) : Type 0 where
  -- The status says how the run ended: with a verdict on the text, for wrong words, by a fault of a stream, or since memory ran out.
  -- What belongs to that was printed, and was told.
  pub end : IsEnd r
  -- Each query prints yes if and only if the book's rules derive it from the written signature.
  pub yes : Prints r SayYesWhereImplied
  -- Each type parameter prints as the least one derivably equal to it.
  pub least : Prints r SayTheLeast
  -- Each printed signature derives what was written and is derived from it, no requirement derivable from the others.
  pub equal : Prints r SayEqualLists
  -- Equivalent signatures print alike, and no others.
  pub alike : Prints r SayAlike
  -- After each yes of `explain` stands a derivation that the checker accepts and that ends in what is asked.
  pub derivations : Prints r SayDerivations
  -- After each yes of `paths` to a conformance stands its conformance path, the shortest and of these the least.
  pub paths : Prints r SayPaths
  -- Of each call exactly the requirements are named that fail for its types.
  pub failing : Prints r SayFailing
  -- The printed requirement lists of the protocols are requirement signatures.
  pub family : Prints r SayFamily
  -- Where no stream fails, a text that is refused has the status of its refusal, unless memory ran out.
  pub refused : (o : Outcome) → IsRefusedRun r o → NothingFailed r → (r.status ≡ o.status) ⊎ (r.status ≡ 6)
  -- Where no stream fails and minimising stops at no limit, a text that nothing refuses is answered, unless memory ran out.
  pub answered : IsAnswerable r → NothingFailed r → (r.status ≡ 0) ⊎ (r.status ≡ 6)
