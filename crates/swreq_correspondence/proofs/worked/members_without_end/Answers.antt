use Rattle.std.proofs.Common.{refl, lit<, arith}
use Rattle.swreq_derive.specs.swreq_param.Terms.{self}
use Rattle.swreq_derive.specs.Derivation.TermRequirement.{Conforms}
use Rattle.swreq_derive.specs.Derivation.Derives.{generic}
use Rattle.swreq_derive.specs.Worked.{◌·◌, τ_0_0, N, Next, Next_of_N}
use Rattle.swreq_derive.proofs.WorkedDerivations.{endless_conforms, endless_next, endless_usable}
use Rattle.swreq_correspondence.specs.Equations.Equation.{twice, member, of_protocol, of_source}
use Rattle.swreq_correspondence.proofs.worked.members_without_end.Goals as goal

pub returns-clause-twice : goal.returns-clause-twice
returns-clause-twice c = twice N (0, lit< tt, refl)

pub returns-clause-member : goal.returns-clause-member
returns-clause-member c = member 0 (lit< tt)

pub returns-clause-of_protocol : goal.returns-clause-of_protocol
returns-clause-of_protocol c = of_protocol N (Conforms (self · Next) N) ((0, lit< tt, refl), endless_usable)

pub returns-clause-of_list : goal.returns-clause-of_list
returns-clause-of_list c = of_source (Conforms τ_0_0 N) ((0, lit< tt, refl), generic (0, lit< tt, refl))

pub returns-clause-reads : goal.returns-clause-reads
returns-clause-reads c = (
  (0, lit< tt, refl),
  (
    (lit< tt, endless_conforms, (N, Next_of_N, endless_conforms, (0, lit< tt, refl))),
    ((N, Next_of_N, endless_next endless_conforms, (0, lit< tt, refl)), (endless_next (endless_next endless_conforms), tt)),
  ),
)

pub returns-clause-typed : goal.returns-clause-typed
returns-clause-typed c = (
  0,
  (lit< tt, endless_conforms, (N, Next_of_N, endless_conforms, (0, lit< tt, refl))),
  record { proto = N; declares = (0, lit< tt, refl); conforms = endless_conforms; first = λ q e h k. omega arith },
  refl,
)
