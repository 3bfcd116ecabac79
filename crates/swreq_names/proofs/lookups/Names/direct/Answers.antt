use Rattle.std.proofs.Common.{subst}
use Rattle.swreq_names.specs.Inheritance.{LeadToDeclared}
use Rattle.swreq_names.specs.Names.{NamesView}
use Rattle.swreq_names.proofs.lookups.Names.direct.Goals as goal

pub returns-clause-within : goal.returns-clause-within
returns-clause-within c = rw c.deref.ensures.value c.self.invariant.1

pub returns-clause-declared : goal.returns-clause-declared
returns-clause-declared c =
    rw c.deref.ensures.value
    (subst (λ (n : NamesView). LeadToDeclared n.declared.protocols c.self.inside.direct.items) c.self.view_is c.self.invariant.2)
