use Rattle.std.proofs.Common.{◌≡◌, [], ◌∷◌, refl, inl, inr, lit<}
use Rattle.swreq_canonical.specs.swreq_param.declared.ids.ProtoId.{ProtoId}
use Rattle.swreq_canonical.specs.swreq_param.Terms.{Term, self}
use Rattle.swreq_canonical.specs.swreq_derive.Derivation.{Derivable}
use Rattle.swreq_canonical.specs.swreq_derive.Derivation.Derives.{generic, conf, assoc_name}
use Rattle.swreq_canonical.specs.swreq_derive.Derivation.Source.{SelfOf}
use Rattle.swreq_canonical.specs.swreq_derive.Derivation.TermRequirement.{Conforms, Equals}
use Rattle.swreq_canonical.specs.swreq_derive.Derivation.TermStatement.{IsValid}
use Rattle.swreq_canonical.specs.swreq_derive.Inheritance.LeadsTo.{here}
use Rattle.swreq_canonical.specs.swreq_derive.Worked.{◌·◌, bound, τ_0_0, τ_0_1, P, Q, A, A_of_P}
use Rattle.swreq_canonical.proofs.swreq_lemmas.Members.{each_member, first_member, only_member}
use Rattle.swreq_canonical.specs.swreq_word.declared.symbols.Symbol.TheVariants.{Proto, Member, Name}
use Rattle.swreq_canonical.specs.swreq_word.Relations.Chain.{done, more}
use Rattle.swreq_canonical.specs.swreq_correspondence.Equations.{Linking}
use Rattle.swreq_canonical.specs.swreq_correspondence.Equations.Equation.{member, of_protocol}
use Rattle.swreq_canonical.specs.swreq_correspondence.Equations.Link.{back, forth, there}
use Rattle.swreq_canonical.specs.swreq_correspondence.Symbols.{Word}
use Rattle.swreq_canonical.specs.swreq_correspondence.Worked.{first_param, second_param}
use Rattle.swreq_rounds.specs.Presents.{ProtocolEquation}
use Rattle.swreq_canonical.specs.Worked.{two}
use Rattle.swreq_candidates.specs.Evidence.{HasPlainTypes, RestEquation}
use Rattle.swreq_candidates.specs.Worked.{implied, implied_symbols, implied_rest}
use Rattle.swreq_candidates.proofs.worked.requirement_that_two_others_imply.Goals as goal

pub returns-clause-plain : goal.returns-clause-plain
returns-clause-plain c =
    each_member (HasPlainTypes implied two implied_rest) implied_rest
    ((0, lit< tt, refl), (((1, lit< tt, refl), ((0, lit< tt, refl), (P, P, A, (0, lit< tt, refl), here, (0, lit< tt, refl)))), tt))

-- ---- [P:A].[Q] = [P:A], by way of [P].A.[Q] and [P].A

abbrev Protocols : Word → Word → Type 0
Protocols = ProtocolEquation implied_symbols implied

valid : Derivable implied (SelfOf P) (IsValid (self · A))
valid = assoc_name {d = A_of_P} (conf refl (λ _. generic refl)) (0, lit< tt, refl)

of_member : Protocols (Proto 0 ∷ Name 0 ∷ []) (Member 0 ∷ [])
of_member = member 0 (lit< tt)

of_p : Protocols (Proto 0 ∷ Name 0 ∷ Proto 1 ∷ []) (Proto 0 ∷ Name 0 ∷ [])
of_p = of_protocol P (Conforms (self · A) Q) ((0, lit< tt, refl), valid)

conforms : Linking Protocols (Member 0 ∷ Proto 1 ∷ []) (Member 0 ∷ [])
conforms = more (back (Proto 1 ∷ []) of_member) (more (forth [] of_p) (more (forth [] of_member) done))

-- ---- U.[Q] = U, by way of T.[P:A].[Q] and T.[P:A]

abbrev E : Word → Word → Type 0
E = RestEquation implied_symbols implied two implied_rest

equal : E (second_param ∷ []) (first_param ∷ Member 0 ∷ [])
equal = inr (Equals τ_0_1 (bound τ_0_0 A_of_P), (1, lit< tt, refl), refl, refl)

of_protocols : E (Member 0 ∷ Proto 1 ∷ []) (Member 0 ∷ [])
of_protocols = inl conforms

pub returns-clause-evidence : goal.returns-clause-evidence
returns-clause-evidence c = more (forth (Proto 1 ∷ []) equal) (more (there first_param (forth [] of_protocols)) (more (back [] equal) done))

-- ---- no conformance

no_conformance : {t u v : Term} {p : ProtoId} → Conforms t p ≡ Equals u v → ⊥
no_conformance e = cc

pub returns-clause-not_plain : goal.returns-clause-not_plain
returns-clause-not_plain c h =
    let (q, p, a, k, r, d) = (h (Equals τ_0_1 (bound τ_0_0 A_of_P)) (first_member (Equals τ_0_1 (bound τ_0_0 A_of_P)) [])).1.1 in
    no_conformance (only_member (Equals τ_0_1 (bound τ_0_0 A_of_P)) (Conforms τ_0_0 q) k)
