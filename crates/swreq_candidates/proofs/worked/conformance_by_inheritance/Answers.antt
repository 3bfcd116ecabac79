use Rattle.std.proofs.Common.{[], ◌∷◌, refl, inl, inr, lit<}
use Rattle.swreq_canonical.specs.swreq_param.Terms.{self}
use Rattle.swreq_canonical.specs.swreq_derive.Derivation.Derives.{generic}
use Rattle.swreq_canonical.specs.swreq_derive.Derivation.TermRequirement.{Conforms}
use Rattle.swreq_canonical.specs.swreq_derive.Worked.{τ_0_0}
use Rattle.swreq_canonical.proofs.swreq_lemmas.Members.{each_member}
use Rattle.swreq_canonical.specs.swreq_word.declared.symbols.Symbol.TheVariants.{Proto}
use Rattle.swreq_canonical.specs.swreq_word.Relations.Chain.{done, more}
use Rattle.swreq_canonical.proofs.swreq_word.Chains.{at_once}
use Rattle.swreq_canonical.specs.swreq_correspondence.Equations.Equation.{of_protocol}
use Rattle.swreq_canonical.specs.swreq_correspondence.Equations.Link.{back, forth, there}
use Rattle.swreq_canonical.specs.swreq_correspondence.Symbols.{Word}
use Rattle.swreq_canonical.specs.swreq_correspondence.Worked.{first_param}
use Rattle.swreq_canonical.specs.Worked.{one, Base, Derived, inherited, inherited_g}
use Rattle.swreq_candidates.specs.Evidence.{HasPlainTypes, RestEquation}
use Rattle.swreq_candidates.specs.Worked.{inherited_symbols}
use Rattle.swreq_candidates.proofs.worked.conformance_by_inheritance.Goals as goal

pub returns-clause-plain : goal.returns-clause-plain
returns-clause-plain c = each_member (HasPlainTypes inherited one inherited_g) inherited_g ((0, lit< tt, refl), tt)

abbrev E : Word → Word → Type 0
E = RestEquation inherited_symbols inherited one inherited_g

-- T.[Derived] = T
of_rest : E (first_param ∷ Proto 1 ∷ []) (first_param ∷ [])
of_rest = inr (Conforms τ_0_0 Derived, (0, lit< tt, refl), refl, refl)

-- [Derived].[Base] = [Derived]
of_protocols : E (Proto 1 ∷ Proto 0 ∷ []) (Proto 1 ∷ [])
of_protocols = inl (at_once (forth [] (of_protocol Derived (Conforms self Base) ((0, lit< tt, refl), generic refl))))

pub returns-clause-evidence : goal.returns-clause-evidence
returns-clause-evidence c =
    more (back (Proto 0 ∷ []) of_rest) (more (there first_param (forth [] of_protocols)) (more (forth [] of_rest) done))
