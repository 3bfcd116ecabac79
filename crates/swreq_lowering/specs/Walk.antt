-- What private functions add for the parts of a protocol and of a signature, one part after another.
use Rattle.std.specs.Prelude.{ℕ, ◌+◌, List, [], ◌∷◌, ◌++◌}
use Rattle.std.specs.List.{flat_map}
use Rattle.swreq_lexicon.specs.swreq_decl.declared.skeleton.AssocDecl.{AssocDecl}
use Rattle.swreq_lexicon.specs.swreq_decl.declared.skeleton.ParamDecl.{ParamDecl}
use Rattle.swreq_lexicon.specs.swreq_decl.declared.skeleton.ReqDecl.{ReqDecl}
use Rattle.swreq_lexicon.specs.swreq_names.declared.signature.Signature.{Signature}
use Rattle.swreq_lexicon.specs.swreq_names.Parts as parts
use Rattle.swreq_lexicon.specs.swreq_names.Parts.Subject.{associated}
use Rattle.swreq_lexicon.specs.swreq_names.Parts.Constraint.{bound}
use Rattle.swreq_lowering.specs.declared.context.Context.{Context}
use Rattle.swreq_lowering.specs.declared.context.Context.TheVariants as contexts
use Rattle.swreq_lowering.specs.Requirements.{PlacedRequirement, of_constraint}
use Rattle.swreq_lowering.specs.Words.{WordsView}

module _ (w : WordsView) where
  abbrev pub in_requirement : Context → ReqDecl → List PlacedRequirement
  in_requirement context r = of_constraint w context (parts.of_requirement r)

  abbrev pub in_clause : Context → List ReqDecl → List PlacedRequirement
  in_clause context clause = flat_map (in_requirement context) clause

  abbrev pub in_member : AssocDecl → List PlacedRequirement
  in_member m = of_constraint w contexts.Protocol (bound (associated m.name) m.inherits) ++ in_clause contexts.Protocol m.clause

  abbrev pub in_members : List AssocDecl → List PlacedRequirement
  in_members ms = flat_map in_member ms

  -- the bounds of the k-th generic parameter
  abbrev pub in_param : Signature → ℕ → ParamDecl → List PlacedRequirement
  in_param g k p = of_constraint w (contexts.Signature g) (parts.of_param (k, p))

  -- the bounds of generic parameters, from the k-th on
  abbrev pub in_params : Signature → ℕ → List ParamDecl → List PlacedRequirement
  in_params g k [] = []
  in_params g k (p ∷ ps) = in_param g k p ++ in_params g (k + 1) ps
