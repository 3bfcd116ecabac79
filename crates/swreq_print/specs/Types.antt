-- The texts of type parameters.
use Rattle.std.specs.Prelude.{List, [], ◌∷◌, ◌++◌, codes, decimal}
use Rattle.std.specs.List.{flat_map}
use Rattle.swreq_lexicon.specs.swreq_param.declared.ids.ParamId.{ParamId}
use Rattle.swreq_lexicon.specs.swreq_param.declared.ids.Step.{Step}
use Rattle.swreq_lexicon.specs.swreq_param.declared.ids.Step.TheVariants.{Bound, Name}
use Rattle.swreq_lexicon.specs.swreq_param.Terms.{Term}
use Rattle.swreq_lexicon.specs.swreq_param.Terms.Term.{Generic, Member}
use Rattle.swreq_lexicon.specs.declared.pair.ProtocolName.{ProtocolName}
use Rattle.swreq_lexicon.specs.Views.{LexiconView}
use Rattle.swreq_print.specs.declared.types.ParamForm.{ParamForm}
use Rattle.swreq_print.specs.declared.types.ParamForm.TheVariants.{Protocol, Signature}
use Rattle.swreq_print.specs.Names.{Text, protocol_name, name_text, pair_at}

-- `τ` in UTF-8
abbrev pub tau : Text
tau = 207 ∷ 132 ∷ []

-- `τ_d_i`
abbrev pub param_text : ParamId → Text
param_text g = tau ++ (codes "_" ++ (decimal g.depth ++ (codes "_" ++ decimal g.index)))

-- `[P]A`
abbrev pub bound_text : LexiconView → ProtocolName → Text
bound_text x d = codes "[" ++ (protocol_name x d.proto ++ (codes "]" ++ name_text x d.name))

-- `.A`, or `.[P]A`
abbrev pub step_text : LexiconView → Step → Text
step_text x (Name a) = codes "." ++ name_text x a
step_text x (Bound d) = codes "." ++ bound_text x (pair_at x d)

abbrev pub steps_text : LexiconView → List Step → Text
steps_text x steps = flat_map (step_text x) steps

-- In a signature a generic parameter is `τ_d_i`, and in a protocol `Self`.
abbrev pub head_text : ParamForm → ParamId → Text
head_text Signature g = param_text g
head_text Protocol g = codes "Self"

-- A generic parameter, or the base and the last step.
abbrev pub type_text_in : LexiconView → ParamForm → Term → Text
type_text_in x form (Generic g) = head_text form g
type_text_in x form (Member t step) = type_text_in x form t ++ step_text x step

abbrev pub type_text : LexiconView → Term → Text
type_text x t = type_text_in x Signature t
