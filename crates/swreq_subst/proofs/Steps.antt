-- The steps of a written type, one after another.
use Rattle.std.proofs.Common.{◌≡◌, ℕ, zero, suc, ◌+◌, ◌<◌, List, [], ◌∷◌, ◌++◌, Bool, true, false, Option, Some, None, length, get_or, take, refl, sym, subst, arith}
use Rattle.std.specs.Prelude.{not}
use Rattle.std.specs.List.{flat_map}
use Rattle.std.proofs.lemmas.List.{take_more}
use Rattle.std.proofs.lemmas.Option.{slice_get_within}
use Rattle.swreq_resolve.specs.swreq_decl.declared.skeleton.Span.{Span}
use Rattle.swreq_resolve.specs.swreq_decl.declared.skeleton.StepDecl.{StepDecl}
use Rattle.swreq_resolve.specs.swreq_decl.declared.skeleton.StepDecl.TheVariants as decls
use Rattle.swreq_resolve.specs.swreq_names.Spaces.{Spaces, word, declares}
use Rattle.swreq_machine.specs.swreq_param.declared.ids.Step.{Step}
use Rattle.swreq_machine.specs.swreq_param.declared.ids.Step.TheVariants as steps
use Rattle.swreq_machine.specs.swreq_param.Terms.{Term, with_steps}
use Rattle.swreq_machine.specs.swreq_param.Terms.Term.{Member}
use Rattle.swreq_resolve.specs.swreq_rank.Ranks.{Bytes}
use Rattle.swreq_resolve.specs.declared.refusal.Fault.{Fault}
use Rattle.swreq_resolve.specs.First.{when}
use Rattle.swreq_resolve.specs.Refusals.{of_bound}
use Rattle.swreq_machine.specs.swreq_lexicon.Views.{LexiconView}
use Rattle.swreq_machine.specs.swreq_world.Closed.{IsStepOf, IsTermOf}
use Rattle.swreq_machine.specs.swreq_world.ReadBack.{SaySteps, SaysStep}

-- ---- nothing is refused

nothing_twice : {A : Type 0} (xs ys : List A) → xs ++ ys ≡ [] → (xs ≡ []) × (ys ≡ [])
nothing_twice [] ys e = (refl, e)
nothing_twice (x ∷ xs) ys e = absurd cc

pub first_nothing : {A : Type 0} (xs ys : List A) → xs ++ ys ≡ [] → xs ≡ []
first_nothing xs ys e = (nothing_twice xs ys e).0

pub second_nothing : {A : Type 0} (xs ys : List A) → xs ++ ys ≡ [] → ys ≡ []
second_nothing xs ys e = (nothing_twice xs ys e).1

pub nothing_of_each : {A B : Type 0} (f : A → List B) (xs : List A) (k : ℕ) (d : A) → flat_map f xs ≡ [] → k < length xs
    → f (get_or xs k d) ≡ []
nothing_of_each f [] k d e l = absurd (omega arith)
nothing_of_each f (x ∷ xs) zero d e l = first_nothing (f x) (flat_map f xs) e
nothing_of_each f (x ∷ xs) (suc k) d e l = nothing_of_each f xs k d (second_nothing (f x) (flat_map f xs) e) (omega arith)

-- a fault that is not there
pub passes : (b : Bool) (fault : Fault) (at : ℕ) → when (not b) fault at ≡ [] → b ≡ true
passes true fault at e = refl
passes false fault at e = absurd cc

-- ---- a bound step

pub declared_there : (text : Bytes) (d : Spaces) (p a : Span) (o : Option ℕ) → of_bound text d p a o ≡ []
    → (i : ℕ) × (o ≡ Some i) × (declares d i (word text a) ≡ true)
declared_there text d p a None e = absurd cc
declared_there text d p a (Some i) e = (i, refl, passes (declares d i (word text a)) _ a.start e)

-- ---- steps

module _ (text : Bytes) (x : LexiconView) where
  says_more : (ys : List Step) (ds : List StepDecl) (y : Step) (d : StepDecl) → SaySteps text x ys ds → SaysStep text x y d
      → SaySteps text x (ys ++ y ∷ []) (ds ++ d ∷ [])
  says_more [] [] y d h k = (k, tt)
  says_more [] (e ∷ ds) y d h k = absurd h
  says_more (z ∷ ys) [] y d h k = absurd h
  says_more (z ∷ ys) (e ∷ ds) y d h k = (h.0, says_more ys ds y d h.1 k)

  pub says_next : (ys more : List Step) (ds : List StepDecl) (k : ℕ) (y : Step) (d : StepDecl) → k < length ds → d ≡ get_or ds k d
      → SaySteps text x ys (take k ds) → SaysStep text x y d → more ≡ ys ++ y ∷ [] → SaySteps text x more (take (k + 1) ds)
  says_next ys more ds k y d l at h s e =
      subst (λ zs. SaySteps text x zs (take (k + 1) ds)) (sym e)
      (subst (SaySteps text x (ys ++ y ∷ [])) (sym (take_more ds k d l))
      (says_more ys (take k ds) y (get_or ds k d) h (subst (SaysStep text x y) at s)))

  -- steps that say what is written are of the text
  step_of_text : (y : Step) (d : StepDecl) → SaysStep text x y d → IsStepOf x y
  step_of_text (steps.Name id) (decls.Plain a) h = slice_get_within x.names id.rank (word text a) h
  step_of_text (steps.Name id) (decls.Bound p a) h = absurd h
  step_of_text (steps.Bound id) (decls.Plain a) h = absurd h
  step_of_text (steps.Bound id) (decls.Bound p a) h = slice_get_within x.associated id.rank h.pair h.there

  pub term_of_text : (t : Term) (ys : List Step) (ds : List StepDecl) → IsTermOf x t → SaySteps text x ys ds → IsTermOf x (with_steps t ys)
  term_of_text t [] ds h s = h
  term_of_text t (y ∷ ys) [] h s = absurd s
  term_of_text t (y ∷ ys) (d ∷ ds) h s = term_of_text (Member t y) ys ds (h, step_of_text y d s.0) s.1
