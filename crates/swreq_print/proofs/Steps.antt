-- A type parameter and its steps.
use Rattle.std.proofs.Common.{◌≡◌, ◌∙◌, ◌++◌, [], ◌∷◌, List, ap, sym}
use Rattle.std.specs.List.{AllByRecursion}
use Rattle.std.proofs.lemmas.List.{append_assoc, append-nil}
use Rattle.swreq_lexicon.specs.swreq_param.declared.ids.Step.{Step}
use Rattle.swreq_lexicon.specs.swreq_param.ComparisonLaws.{as_steps, steps_of}
use Rattle.swreq_lexicon.specs.swreq_param.Terms.{Term, head, with_steps}
use Rattle.swreq_lexicon.specs.swreq_param.Terms.Term.{Generic, Member}
use Rattle.swreq_lexicon.specs.Views.{LexiconView}
use Rattle.swreq_print.specs.declared.types.ParamForm.{ParamForm}
use Rattle.swreq_print.specs.declared.types.ParamForm.TheVariants.{Signature}
use Rattle.swreq_print.specs.Types.{param_text, step_text, steps_text, type_text, type_text_in}
use Rattle.swreq_lowering.specs.OfText.{IsStepOf, IsTermOf}

pub type_by_steps : (x : LexiconView) (form : ParamForm) (t : Term) (steps : List Step)
    → type_text_in x form (with_steps t steps) ≡ type_text_in x form t ++ steps_text x steps
type_by_steps x form t [] = sym (append-nil (type_text_in x form t))
type_by_steps x form t (s ∷ steps) =
    type_by_steps x form (Member t s) steps ∙ append_assoc (type_text_in x form t) (step_text x s) (steps_text x steps)

pub steps_of_text : (x : LexiconView) (t : Term) (steps : List Step) → IsTermOf x (with_steps t steps)
    → IsTermOf x t × AllByRecursion (IsStepOf x) steps
steps_of_text x t [] h = (h, tt)
steps_of_text x t (s ∷ steps) h = let more = steps_of_text x (Member t s) steps h in (more.0.0, (more.0.1, more.1))

-- the text of a type parameter is that of its generic parameter, and then that of its steps
pub by_steps : (x : LexiconView) (t : Term) → type_text x t ≡ param_text (head t) ++ steps_text x (steps_of t)
by_steps x t = ap (type_text x) (sym (as_steps t)) ∙ type_by_steps x Signature (Generic (head t)) (steps_of t)

pub each_step : (x : LexiconView) (t : Term) → IsTermOf x t → AllByRecursion (IsStepOf x) (steps_of t)
each_step x t h = (steps_of_text x (Generic (head t)) (steps_of t) (rw (as_steps t) h)).1
