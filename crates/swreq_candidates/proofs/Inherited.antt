-- Inheritance leads from a conformance to others, so the names that a protocol inherits are declared for `Self`.
use Rattle.std.proofs.Common.{refl}
use Rattle.swreq_canonical.specs.swreq_param.declared.ids.ProtoId.{ProtoId}
use Rattle.swreq_canonical.specs.swreq_param.Terms.{Term, self}
use Rattle.swreq_canonical.specs.swreq_derive.Derivation.{Derivable, Source, TermFacts}
use Rattle.swreq_canonical.specs.swreq_derive.Derivation.Derives.{assoc_conf, conf, generic}
use Rattle.swreq_canonical.specs.swreq_derive.Derivation.TermRequirement.{Conforms}
use Rattle.swreq_canonical.specs.swreq_derive.Derivation.TermStatement.{Requires}
use Rattle.swreq_canonical.specs.swreq_derive.Inheritance.{LeadsTo}
use Rattle.swreq_canonical.specs.swreq_derive.Inheritance.LeadsTo.{further, here}
use Rattle.swreq_canonical.specs.swreq_correspondence.Symbols.{Symbols}
use Rattle.swreq_candidates.specs.Blocks.{AreMembersDeclared, AreMembersNamed}

pub reached : {f : TermFacts} {s : Source} {t : Term} {p q : ProtoId} → Derivable f s (Requires (Conforms t q)) → LeadsTo f q p
    → Derivable f s (Requires (Conforms t p))
reached c here = c
reached c (further r h) = assoc_conf {u = self} (reached c r) h (λ _. generic refl)

pub declared_named : (m : Symbols) (f : TermFacts) → AreMembersDeclared m f → AreMembersNamed m f
declared_named m f declared k h = let (p, d, r, c) = declared k h in (p, d, reached (conf refl (λ _. generic refl)) r, c)
