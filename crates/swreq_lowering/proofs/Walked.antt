-- What is added part by part is what the constraints of a protocol and of a signature require.
use Rattle.std.proofs.Common.{◌≡◌, ◌∙◌, ℕ, ◌+◌, List, [], ◌∷◌, ◌++◌, map, refl, ap}
use Rattle.std.specs.List.{flat_map}
use Rattle.std.proofs.lemmas.Grind.{flat_map-append}
use Rattle.std.proofs.lemmas.List.Folds.{flat_map-map}
use Rattle.swreq_lexicon.specs.swreq_decl.declared.skeleton.AssocDecl.{AssocDecl}
use Rattle.swreq_lexicon.specs.swreq_decl.declared.skeleton.ParamDecl.{ParamDecl}
use Rattle.swreq_lexicon.specs.swreq_decl.declared.skeleton.ProtocolDecl.{ProtocolDecl}
use Rattle.swreq_lexicon.specs.swreq_decl.declared.skeleton.ReqDecl.{ReqDecl}
use Rattle.swreq_lexicon.specs.swreq_names.declared.signature.Signature.{Signature}
use Rattle.swreq_lexicon.specs.swreq_names.Parts.{Constraint, numbered, of_clause, of_member, of_param, of_requirement}
use Rattle.swreq_lexicon.specs.swreq_names.Parts.Subject.{associated, self_of}
use Rattle.swreq_lexicon.specs.swreq_names.Parts.Constraint.{bound}
use Rattle.swreq_lowering.specs.declared.context.Context.{Context}
use Rattle.swreq_lowering.specs.declared.context.Context.TheVariants as contexts
use Rattle.swreq_lowering.specs.Requirements.{PlacedRequirement, in_protocol, in_signature, of_constraint}
use Rattle.swreq_lowering.specs.Walk.{in_clause, in_members, in_params}
use Rattle.swreq_lowering.specs.Words.{WordsView}

module _ (w : WordsView) where
  abbrev required : Context → List Constraint → List PlacedRequirement
  required context cs = flat_map (of_constraint w context) cs

  clause_walked : (context : Context) (rs : List ReqDecl) → required context (of_clause rs) ≡ in_clause w context rs
  clause_walked context rs = flat_map-map (of_constraint w context) of_requirement rs

  members_walked : (ms : List AssocDecl) → required contexts.Protocol (flat_map of_member ms) ≡ in_members w ms
  members_walked [] = refl
  members_walked (m ∷ ms) =
      flat_map-append (of_constraint w contexts.Protocol) (of_member m) (flat_map of_member ms)
      ∙ (λ i. (of_constraint w contexts.Protocol (bound (associated m.name) m.inherits) ++ clause_walked contexts.Protocol m.clause i)
      ++ members_walked ms i)

  pub protocol_walked : (p : ProtocolDecl) → in_protocol w p ≡ of_constraint w contexts.Protocol (bound (self_of p.name) p.inherits)
      ++ (in_clause w contexts.Protocol p.clause ++ in_members w p.members)
  protocol_walked p =
      ap (λ rs. of_constraint w contexts.Protocol (bound (self_of p.name) p.inherits) ++ rs)
      (flat_map-append (of_constraint w contexts.Protocol) (of_clause p.clause) (flat_map of_member p.members)
      ∙ (λ i. clause_walked contexts.Protocol p.clause i ++ members_walked p.members i))

  params_walked : (g : Signature) (k : ℕ) (ps : List ParamDecl)
      → required (contexts.Signature g) (map of_param (numbered k ps)) ≡ in_params w g k ps
  params_walked g k [] = refl
  params_walked g k (p ∷ ps) = ap (λ rs. of_constraint w (contexts.Signature g) (of_param (k, p)) ++ rs) (params_walked g (k + 1) ps)

  pub signature_walked : (g : Signature) (params : List ParamDecl) (clause : List ReqDecl)
      → in_signature w g params clause ≡ in_params w g 0 params ++ in_clause w (contexts.Signature g) clause
  signature_walked g params clause =
      flat_map-append (of_constraint w (contexts.Signature g)) (map of_param (numbered 0 params)) (of_clause clause)
      ∙ (λ i. params_walked g 0 params i ++ clause_walked (contexts.Signature g) clause i)
