-- Types in place of generic parameters.
use Rattle.std.proofs.Common.{◌≡◌, ℕ, ◌+◌, ◌<◌, ◌≤◌, ◌==◌, cond, inl, inr, List, [], ◌∷◌, length, take, map, get_or, sym, ap, subst, ◌∙◌, arith, refl}
use Rattle.std.specs.Prelude.{All}
use Rattle.std.proofs.lemmas.List.{length-map, take_more}
use Rattle.std.proofs.lemmas.List.Elements.{All-get_or}
use Rattle.std.proofs.lemmas.Bool.{cases_lt}
use Rattle.std.proofs.lemmas.List.{get_or_past, get_or-map}
use Rattle.swreq_machine.specs.swreq_param.declared.ids.ParamId.{ParamId}
use Rattle.swreq_machine.specs.swreq_param.declared.ids.Step.{Step}
use Rattle.swreq_machine.specs.swreq_param.declared.ids.TermId.{TermId}
use Rattle.swreq_machine.specs.swreq_param.ComparisonLaws.{with_more}
use Rattle.swreq_machine.specs.swreq_param.Tables.{term_at}
use Rattle.swreq_machine.specs.swreq_param.Terms.{Term, head, self, with_steps}
use Rattle.swreq_machine.specs.swreq_param.Terms.Term.{Generic, Member}
use Rattle.swreq_machine.specs.swreq_derive.declared.known.Params.{Params}
use Rattle.swreq_machine.specs.swreq_derive.Derivation.{TermRequirement, substitute}
use Rattle.swreq_machine.specs.swreq_derive.Derivation.TermRequirement.{Conforms, IsAnyObject, Equals}
use Rattle.swreq_machine.proofs.swreq_derive.TwoDepths.{two_depths}
use Rattle.swreq_machine.specs.swreq_lexicon.Views.{LexiconView}
use Rattle.swreq_machine.specs.swreq_lowering.Heads.{IsOver}
use Rattle.swreq_machine.specs.swreq_world.Closed.{IsParamOf, IsRequirementOf, IsTermOf}
use Rattle.swreq_machine.specs.swreq_symbols.Known.{IsTypeIn}
use Rattle.swreq_subst.specs.Arguments.{argument_of, param_count, place_of, requirement_with, with_arguments}

-- ---- steps

-- the type parameters for generic parameters go under the steps
pub substitute_steps : (of : ParamId → Term) (u : Term) (steps : List Step)
    → substitute of (with_steps u steps) ≡ with_steps (substitute of u) steps
substitute_steps of u [] = refl
substitute_steps of u (x ∷ xs) = substitute_steps of (Member u x) xs

-- one step more
pub one_step : (t : Term) (xs : List Step) (k : ℕ) (d : Step) → k < length xs
    → with_steps t (take (k + 1) xs) ≡ Member (with_steps t (take k xs)) (get_or xs k d)
one_step t xs k d h = ap (with_steps t) (take_more xs k d h) ∙ with_more t (take k xs) (get_or xs k d)

-- ---- places

-- The place of a generic parameter is below their number.
pub place_within : (p : Params) (g : ParamId) → IsParamOf p g → place_of p g < param_count p
place_within p g h = elim ((two_depths p g).0 h) [
  | inl k ↦ subst (λ d. cond (d == 0) g.index (p.outer + g.index) < p.outer + p.inner) (sym k.0) (let i = k.1 in omega arith)
  | inr k ↦ subst (λ d. cond (d == 0) g.index (p.outer + g.index) < p.outer + p.inner) (sym k.0) (let i = k.1 in omega arith)
]

pub over_places : (p : Params) (n : ℕ) → n ≡ param_count p → (r : TermRequirement) → IsOver (IsParamOf p) r
    → IsOver (λ g. place_of p g < n) r
over_places p n e (Conforms t q) h = subst (λ z. place_of p (head t) < z) (sym e) (place_within p (head t) h)
over_places p n e (IsAnyObject t) h = subst (λ z. place_of p (head t) < z) (sym e) (place_within p (head t) h)
over_places p n e (Equals t u) h = (
  subst (λ z. place_of p (head t) < z) (sym e) (place_within p (head t) h.0),
  subst (λ z. place_of p (head u) < z) (sym e) (place_within p (head u) h.1),
)

-- ---- what is put in is of the text

module _ (x : LexiconView) where
  substituted_of : (of : ParamId → Term) → ((g : ParamId) → IsTermOf x (of g)) → (u : Term) → IsTermOf x u → IsTermOf x (substitute of u)
  substituted_of of all (Generic g) h = all g
  substituted_of of all (Member u s) h = (substituted_of of all u h.0, h.1)

  module _ (terms : List Term) (args : List TermId) (of_text : All (IsTypeIn terms x) args) where
    argument_of_text : (k : ℕ) → IsTermOf x (get_or (map (term_at terms) args) k self)
    argument_of_text k = elim (cases_lt k (length args)) [
      | inl l ↦
          let first : TermId = record { place = 0 } in
          subst (IsTermOf x) (sym (get_or-map (term_at terms) args k first self l)) (All-get_or (IsTypeIn terms x) args k first l of_text).1
      | inr l ↦
          let past : length (map (term_at terms) args) ≤ k = omega (arith, length-map args (term_at terms), l) in
          subst (IsTermOf x) (sym (get_or_past (map (term_at terms) args) k self past)) tt
    ]

    replaced_of_text : (params : Params) (u : Term) → IsTermOf x u → IsTermOf x (with_arguments params (map (term_at terms) args) u)
    replaced_of_text params u h =
        substituted_of (argument_of params (map (term_at terms) args)) (λ g. argument_of_text (place_of params g)) u h

    -- a requirement with types of the text is of the text
    pub requirement_of_text : (params : Params) (r : TermRequirement) → IsRequirementOf x r
        → IsRequirementOf x (requirement_with params (map (term_at terms) args) r)
    requirement_of_text params (Conforms t p) h = (replaced_of_text params t h.0, h.1)
    requirement_of_text params (IsAnyObject t) h = replaced_of_text params t h
    requirement_of_text params (Equals t u) h = (replaced_of_text params t h.0, replaced_of_text params u h.1)
