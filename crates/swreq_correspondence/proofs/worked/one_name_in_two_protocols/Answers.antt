use Rattle.std.proofs.Common.{[], ◌∷◌, refl, lit<}
use Rattle.swreq_word.specs.declared.symbols.Symbol.TheVariants.{Name}
use Rattle.swreq_word.specs.Relations.Chain.{done, more}
use Rattle.swreq_derive.specs.Derivation.TermRequirement.{Conforms}
use Rattle.swreq_derive.specs.Derivation.Derives.{generic, assoc_decl}
use Rattle.swreq_derive.specs.Worked.{τ_0_0, P, Q, A, A_of_Q}
use Rattle.swreq_derive.proofs.Guard.{without_guard}
use Rattle.swreq_correspondence.specs.Equations.Equation.{member, of_source}
use Rattle.swreq_correspondence.specs.Equations.Link.{forth, back, there}
use Rattle.swreq_correspondence.specs.Worked.{first_param}
use Rattle.swreq_correspondence.proofs.worked.one_name_in_two_protocols.Goals as goal

-- τ·[P:A], τ·[P]·A, τ·A, τ·[Q]·A, τ·[Q:A]
pub returns-clause-congruent : goal.returns-clause-congruent
returns-clause-congruent c =
    more (there first_param (back [] (member 0 (lit< tt))))
    (more (forth (Name 0 ∷ []) (of_source (Conforms τ_0_0 P) ((0, lit< tt, refl), generic (0, lit< tt, refl))))
    (more (back (Name 0 ∷ []) (of_source (Conforms τ_0_0 Q) ((1, lit< tt, refl), generic (0, lit< tt, refl))))
    (more (there first_param (forth [] (member 1 (lit< tt)))) done)))

pub returns-clause-no_reading : goal.returns-clause-no_reading
returns-clause-no_reading c h =
    c.one_name_in_two_protocols.ensures.absent (without_guard (assoc_decl {a = A} {d = A_of_Q} h.1.0.1 (1, lit< tt, refl)))
