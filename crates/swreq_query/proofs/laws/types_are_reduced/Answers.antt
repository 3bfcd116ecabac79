use Rattle.swreq_query.proofs.laws.types_are_reduced.Goals as goal

pub returns : goal.returns
returns c = λ f s t r. (λ h. record { equal = h.0; least = h.1 }, λ h. (h.equal, h.least))
