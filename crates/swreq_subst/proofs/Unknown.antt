-- Types with names that the world lacks.
use Rattle.std.proofs.Common.{◌≡◌, List, [], ◌∷◌, Some, slice_get, inl, inr, subst}
use Rattle.std.proofs.lemmas.Option.{slice_get_within}
use Rattle.swreq_print.proofs.swreq_lemmas.Elements.{get_contains}
use Rattle.swreq_print.proofs.swreq_lemmas.Members.{member_cases, no_member}
use Rattle.swreq_resolve.specs.swreq_decl.declared.skeleton.StepDecl.{StepDecl}
use Rattle.swreq_resolve.specs.swreq_decl.declared.skeleton.StepDecl.TheVariants as decls
use Rattle.swreq_resolve.specs.swreq_names.Spaces.{word}
use Rattle.swreq_machine.specs.swreq_param.declared.ids.AssocId.{AssocId}
use Rattle.swreq_machine.specs.swreq_param.declared.ids.NameId.{NameId}
use Rattle.swreq_machine.specs.swreq_param.declared.ids.ProtoId.{ProtoId}
use Rattle.swreq_machine.specs.swreq_param.declared.ids.Step.{Step}
use Rattle.swreq_machine.specs.swreq_param.declared.ids.Step.TheVariants as steps
use Rattle.swreq_machine.specs.swreq_param.Terms.{Term}
use Rattle.swreq_machine.specs.swreq_param.Terms.Term.{Generic, Member}
use Rattle.swreq_machine.specs.swreq_derive.Derivation.{Declares, Derivable, Source}
use Rattle.swreq_machine.specs.swreq_derive.Derivation.TermStatement.{IsValid}
use Rattle.swreq_resolve.specs.swreq_rank.Ranks.{Bytes}
use Rattle.swreq_machine.specs.swreq_lexicon.Lexicons.{pair}
use Rattle.swreq_print.proofs.swreq_lexicon.RankLaws.{ranked}
use Rattle.swreq_machine.proofs.swreq_correspondence.Readings.{valid_base, valid_bound, valid_name}
use Rattle.swreq_machine.specs.swreq_world.Closed.{IsClosed, IsStepOf, IsTermOf}
use Rattle.swreq_machine.specs.swreq_world.FactsAt.{facts_of}
use Rattle.swreq_machine.specs.swreq_world.ReadBack.{SaySteps, SaysStep}
use Rattle.swreq_machine.specs.swreq_world.Worlds.{IdWorld, TextWorld, WorldOver}
use Rattle.swreq_subst.specs.Saying.{HasUnknown, IsUnknown}

module _ {R Q : Type 0} (w : WorldOver R Q) (text : Bytes) where
  is_known : (y : Step) (d : StepDecl) → SaysStep text w.lexicon y d → IsUnknown w text d → ⊥
  is_known (steps.Name id) (decls.Plain a) h unknown = unknown (get_contains w.lexicon.names id.rank (word text a) h)
  is_known (steps.Name id) (decls.Bound p a) h unknown = unknown
  is_known (steps.Bound id) (decls.Plain a) h unknown = h
  is_known (steps.Bound id) (decls.Bound p a) h unknown = unknown

  pub are_known : (ys : List Step) (ds : List StepDecl) → SaySteps text w.lexicon ys ds → HasUnknown w text ds → ⊥
  are_known [] [] h (d, c, unknown) = no_member d c
  are_known [] (e ∷ ds) h u = h
  are_known (y ∷ ys) [] h u = h
  are_known (y ∷ ys) (e ∷ ds) h (d, c, unknown) = elim (member_cases e d ds c) [
    | inl same ↦ is_known y e h.0 (subst (IsUnknown w text) same unknown)
    | inr later ↦ are_known ys ds h.1 (d, later, unknown)
  ]

-- ---- what is derivable is of the world

module _ (w : TextWorld) (closed : IsClosed w) where
  declared_there : (p : ProtoId) (a : NameId) (d : AssocId) → Declares (facts_of w) p a d
      → slice_get w.lexicon.associated d.rank ≡ Some (pair p a)
  declared_there p a d h = (ranked w.lexicon.associated (record { proto = p; name = a; assoc = d })).0 h

  step_of_world : (s : Source) (t : Term) (x : Step) → Derivable (facts_of w) s (IsValid (Member t x)) → IsStepOf w.lexicon x
  step_of_world s t (steps.Name a) v =
      let (p, d, conforms, declares) = valid_name v in
      (closed.ids.associated (pair p a) (get_contains w.lexicon.associated d.rank (pair p a) (declared_there p a d declares))).1
  step_of_world s t (steps.Bound d) v =
      let (p, a, conforms, declares) = valid_bound v in
      slice_get_within w.lexicon.associated d.rank (pair p a) (declared_there p a d declares)

  pub term_of_world : (s : Source) (t : Term) → Derivable (facts_of w) s (IsValid t) → IsTermOf w.lexicon t
  term_of_world s (Generic g) v = tt
  term_of_world s (Member t x) v = (term_of_world s t (valid_base x v), step_of_world s t x v)
