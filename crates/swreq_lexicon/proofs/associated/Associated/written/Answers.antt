use Rattle.std.proofs.Common.{List, Contains, sym, subst}
use Rattle.swreq_lexicon.specs.declared.pair.ProtocolName.{ProtocolName}
use Rattle.swreq_lexicon.proofs.associated.Associated.written.Goals as goal

pub returns : goal.returns
returns c d = (
  λ h. subst (λ (xs : List ProtocolName). Contains xs d) c.self.view_is
      ((c.self.invariant.2 d).0 (subst (λ (xs : List ProtocolName). Contains xs d) c.deref.ensures.value h)),
  λ h. subst (λ (xs : List ProtocolName). Contains xs d) (sym c.deref.ensures.value)
      ((c.self.invariant.2 d).1 (subst (λ (xs : List ProtocolName). Contains xs d) (sym c.self.view_is) h)),
)
