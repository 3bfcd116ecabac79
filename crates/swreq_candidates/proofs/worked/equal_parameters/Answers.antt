use Rattle.std.proofs.Common.{◌≡◌, zero, suc, [], ◌∷◌, refl, ap, subst, lit<, arith}
use Rattle.swreq_canonical.specs.swreq_param.Terms.{Term, head, self}
use Rattle.swreq_canonical.specs.swreq_derive.Derivation.Derives.{generic}
use Rattle.swreq_canonical.specs.swreq_derive.Derivation.TermRequirement.{Conforms, IsAnyObject, Equals}
use Rattle.swreq_canonical.specs.swreq_derive.Worked.{of_two, param, τ_0_0, τ_0_1, P, layouts, layouts_f}
use Rattle.swreq_canonical.specs.swreq_word.declared.symbols.Symbol.TheVariants.{Proto, Layout}
use Rattle.swreq_canonical.specs.swreq_word.Least.{IsLeast}
use Rattle.swreq_canonical.specs.swreq_word.Order.{WordLess}
use Rattle.swreq_canonical.specs.swreq_word.Relations.Chain.{done, more}
use Rattle.swreq_canonical.proofs.swreq_word.Comparing.{by_length}
use Rattle.swreq_canonical.specs.swreq_correspondence.Equations.{UsableEquation, AreCongruent}
use Rattle.swreq_canonical.specs.swreq_correspondence.Equations.Equation.{of_protocol, of_source}
use Rattle.swreq_canonical.specs.swreq_correspondence.Equations.Link.{back, forth, there}
use Rattle.swreq_canonical.specs.swreq_correspondence.Symbols.{Word}
use Rattle.swreq_canonical.specs.swreq_correspondence.Worked.{first_param, second_param}
use Rattle.swreq_canonical.proofs.swreq_correspondence.Orders.{none_less}
use Rattle.swreq_candidates.specs.Worked.{layouts_symbols}
use Rattle.swreq_candidates.proofs.Ends.{factors_by_ends, layout_least, param_least, single_factors}
use Rattle.swreq_candidates.proofs.worked.equal_parameters.Goals as goal

abbrev E : Word → Word → Type 0
E = UsableEquation layouts_symbols layouts (of_two layouts_f)

abbrev C : Word → Word → Type 0
C = AreCongruent layouts_symbols layouts (of_two layouts_f)

first_least : IsLeast C (first_param ∷ [])
first_least = param_least layouts_symbols layouts (param 0 ∷ param 1 ∷ []) layouts_f

-- ---- T.[layout: AnyObject] => T, by way of T.[P].[layout: AnyObject] and T.[P]

of_list : E (first_param ∷ Proto 0 ∷ []) (first_param ∷ [])
of_list = of_source (Conforms τ_0_0 P) ((0, lit< tt, refl), generic (0, lit< tt, refl))

of_p : E (Proto 0 ∷ Layout ∷ []) (Proto 0 ∷ [])
of_p = of_protocol P (IsAnyObject self) ((0, lit< tt, refl), generic refl)

vanishes : C (first_param ∷ Layout ∷ []) (first_param ∷ [])
vanishes = more (back (Layout ∷ []) of_list) (more (there first_param (forth [] of_p)) (more (forth [] of_list) done))

pub returns-clause-layout : goal.returns-clause-layout
returns-clause-layout c = (
  first_param ∷ Layout ∷ [],
  first_param ∷ [],
  (
    record {
      not_least = λ l. none_less C (first_param ∷ Layout ∷ []) (first_param ∷ []) l vanishes
          (by_length (first_param ∷ []) (first_param ∷ Layout ∷ []) (lit< tt));
      factors =
          factors_by_ends E Layout first_param [] first_least (layout_least layouts_symbols layouts (param 0 ∷ param 1 ∷ []) layouts_f);
    },
    vanishes,
    first_least,
  ),
  (generic (0, lit< tt, refl), refl, refl),
)

-- ---- U => T

equal : C (second_param ∷ []) (first_param ∷ [])
equal = more (forth [] (of_source (Equals τ_0_1 τ_0_0) ((1, lit< tt, refl), (generic (1, lit< tt, refl), generic (0, lit< tt, refl))))) done

less : WordLess (first_param ∷ []) (second_param ∷ [])
less = refl

not_least : IsLeast C (second_param ∷ []) → ⊥
not_least l = none_less C (second_param ∷ []) (first_param ∷ []) l equal less

differ : τ_0_0 ≡ τ_0_1 → ⊥
differ e = apart (ap (λ (t : Term). (head t).index) e)
  where
    apart : zero ≡ suc zero → ⊥
    apart e = omega arith

pub returns-clause-equality : goal.returns-clause-equality
returns-clause-equality c = (
  second_param ∷ [],
  first_param ∷ [],
  (record { not_least = not_least; factors = single_factors E second_param }, equal, first_least),
  (generic (0, lit< tt, refl), generic (1, lit< tt, refl), differ, refl, refl),
)

pub returns-clause-turned : goal.returns-clause-turned
returns-clause-turned c (l, r, (minimal, k, least), (v, w, n, e, s)) = not_least (subst (IsLeast C) e least)
