-- The lines that are appended.
use Rattle.std.proofs.Common.{◌≡◌, refl, sym, subst, ap, ap₂, List, ◌++◌, codes}
use Rattle.swreq_print.specs.swreq_param.declared.ids.ParamId.{ParamId}
use Rattle.swreq_print.specs.swreq_param.declared.ids.Step.{Step}
use Rattle.swreq_print.specs.swreq_param.Terms.{Term, with_steps}
use Rattle.swreq_print.specs.swreq_param.Terms.Term.{Generic}
use Rattle.swreq_print.specs.swreq_derive.Derivation.{TermStatement}
use Rattle.swreq_print.specs.swreq_derive.Derivation.TermStatement.{IsValid}
use Rattle.swreq_print.specs.Names.{Text}
use Rattle.swreq_print.specs.Types.{type_text}
use Rattle.swreq_print.specs.swreq_lexicon.Views.{LexiconView}
use Rattle.swreq_print.specs.swreq_lowering.Queries.{TermAsks}
use Rattle.swreq_print.specs.swreq_lowering.Queries.TermAsks.{AsksReduced}
use Rattle.swreq_query.specs.Answers.{Answer, IsAnswer, IsLeastEqual, answer_line}
use Rattle.swreq_query.specs.Answers.Answer.{Reduced}
use Rattle.swreq_query.specs.Asked.{AppendsAnswer}

module _ (derivable : TermStatement → Type 0) (x : LexiconView) where
  pub line_appended : (q : TermAsks) (a : Answer) (line old new : Text) → IsAnswer derivable q a
      → line ≡ answer_line x a → new ≡ old ++ line
      → AppendsAnswer x derivable q old new
  line_appended q a line old new h e n = (line, (a, h, e), n)

  -- the reduced type, of which a scratch has the generic parameter and the steps
  pub type_appended : (t : Term) (names : LexiconView) (head g : ParamId) (steps left : List Step) (old new : Text)
      → names ≡ x → head ≡ g → steps ≡ left → derivable (IsValid t) → IsLeastEqual derivable t (with_steps (Generic g) left)
      → new ≡ old ++ (type_text names (with_steps (Generic head) steps) ++ codes "\n")
      → AppendsAnswer x derivable (AsksReduced t) old new
  type_appended t names head g steps left old new d e k v least n =
      let r : Term = with_steps (Generic g) left in
      let same : type_text names (with_steps (Generic head) steps) ≡ type_text x r =
      ap₂ type_text d (ap₂ (λ h ss. with_steps (Generic h) ss) e k) in
      line_appended (AsksReduced t) (Reduced r) _ old new
      ((λ s i. subst (λ z. derivable (IsValid z)) (sym i) v), (t, refl, least))
      (ap (λ z. z ++ codes "\n") same) n
