use Rattle.std.proofs.Common.{◌≡◌, zero, suc, [], ◌∷◌, refl, ap, lit<, arith}
use Rattle.swreq_canonical.specs.swreq_derive.Derivation.{AssociatedType}
use Rattle.swreq_canonical.specs.swreq_derive.Derivation.Derives.{generic, conf}
use Rattle.swreq_canonical.specs.swreq_derive.Derivation.TermRequirement.{Conforms}
use Rattle.swreq_canonical.specs.swreq_derive.Worked.{declared, of_one, param, τ_0_0, N, Missing, Next, Next_of_N, endless, endless_f}
use Rattle.swreq_canonical.proofs.swreq_derive.WorkedDerivations.{endless_conforms, endless_next}
use Rattle.swreq_canonical.proofs.swreq_lemmas.Members.{only_member}
use Rattle.swreq_canonical.specs.swreq_word.declared.symbols.Symbol.TheVariants.{Proto}
use Rattle.swreq_canonical.proofs.swreq_word.Chains.{at_once}
use Rattle.swreq_canonical.proofs.swreq_word.Comparing.{by_length}
use Rattle.swreq_canonical.specs.swreq_correspondence.Equations.{AreCongruent, UsableEquation}
use Rattle.swreq_canonical.specs.swreq_correspondence.Equations.Equation.{of_source}
use Rattle.swreq_canonical.specs.swreq_correspondence.Equations.Link.{forth}
use Rattle.swreq_canonical.specs.swreq_correspondence.Readings.{HasName}
use Rattle.swreq_canonical.specs.swreq_correspondence.Worked.{first_param, endless_symbols}
use Rattle.swreq_canonical.proofs.swreq_correspondence.Orders.{none_less}
use Rattle.swreq_candidates.specs.Blocks.{AreMembersNamed}
use Rattle.swreq_candidates.specs.Blocks.Cut.{alone, at_end, on, opened}
use Rattle.swreq_candidates.proofs.Ends.{factors_by_ends, param_least, proto_least}
use Rattle.swreq_candidates.proofs.worked.members_without_end.Goals as goal

next_name : HasName endless (of_one endless_f) τ_0_0 Next
next_name = (N, Next_of_N, endless_conforms, (0, lit< tt, refl))

named : AreMembersNamed endless_symbols endless
named zero h = (N, Next_of_N, conf refl (λ _. generic refl), (0, lit< tt, refl))
named (suc k) h = absurd (omega arith)

pub returns-clause-named : goal.returns-clause-named
returns-clause-named c = named

pub returns-clause-one : goal.returns-clause-one
returns-clause-one c = (
  opened (λ h. h) (0, lit< tt, refl) (on (lit< tt, endless_conforms, next_name) (on (endless_next endless_conforms) at_end)),
  refl,
)

-- no protocol declares `Missing`
missing : HasName endless (of_one endless_f) τ_0_0 Missing → ⊥
missing (p, d, c, h) =
    apart (ap (λ (x : AssociatedType). x.name.rank) (only_member (declared N Next Next_of_N) (declared p Missing d) h))
  where
    apart : zero ≡ suc zero → ⊥
    apart e = omega arith

pub returns-clause-three : goal.returns-clause-three
returns-clause-three c = (
  opened (λ h. h) (0, lit< tt, refl) (alone missing (λ h. h) (opened (λ h. h) refl at_end)),
  refl,
)

vanishes : AreCongruent endless_symbols endless (of_one endless_f) (first_param ∷ Proto 0 ∷ []) (first_param ∷ [])
vanishes = at_once (forth [] (of_source (Conforms τ_0_0 N) ((0, lit< tt, refl), generic (0, lit< tt, refl))))

pub returns-clause-conformance : goal.returns-clause-conformance
returns-clause-conformance c = (
  first_param ∷ Proto 0 ∷ [],
  first_param ∷ [],
  (
    record {
      not_least = λ l.
          none_less (AreCongruent endless_symbols endless (of_one endless_f)) (first_param ∷ Proto 0 ∷ []) (first_param ∷ []) l vanishes
          (by_length (first_param ∷ []) (first_param ∷ Proto 0 ∷ []) (lit< tt));
      factors = factors_by_ends (UsableEquation endless_symbols endless (of_one endless_f)) (Proto 0) first_param []
          (param_least endless_symbols endless (param 0 ∷ []) endless_f) (proto_least endless_symbols endless (param 0 ∷ []) endless_f N);
    },
    vanishes,
    param_least endless_symbols endless (param 0 ∷ []) endless_f,
  ),
  (generic (0, lit< tt, refl), refl, refl),
)
