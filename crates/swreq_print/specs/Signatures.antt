-- The texts of requirements and of signatures.
use Rattle.std.specs.Prelude.{List, [], ◌∷◌, ◌++◌, map, codes}
use Rattle.swreq_text.specs.Joined.{joined}
use Rattle.swreq_lexicon.specs.swreq_param.declared.ids.ParamId.{ParamId}
use Rattle.swreq_lexicon.specs.swreq_derive.Derivation.{TermRequirement}
use Rattle.swreq_lexicon.specs.swreq_derive.Derivation.TermRequirement.{Conforms, IsAnyObject, Equals}
use Rattle.swreq_lexicon.specs.Views.{LexiconView}
use Rattle.swreq_print.specs.declared.types.ParamForm.{ParamForm}
use Rattle.swreq_print.specs.declared.types.ParamForm.TheVariants.{Protocol, Signature}
use Rattle.swreq_print.specs.Names.{Text, protocol_name}
use Rattle.swreq_print.specs.Types.{param_text, type_text_in}

-- `T : P`, `T : AnyObject` or `T == U`
abbrev pub requirement_text_in : LexiconView → ParamForm → TermRequirement → Text
requirement_text_in x form (Conforms t p) = type_text_in x form t ++ (codes " : " ++ protocol_name x p)
requirement_text_in x form (IsAnyObject t) = type_text_in x form t ++ codes " : AnyObject"
requirement_text_in x form (Equals t u) = type_text_in x form t ++ (codes " == " ++ type_text_in x form u)

abbrev pub requirement_text : LexiconView → TermRequirement → Text
requirement_text x r = requirement_text_in x Signature r

-- with `Self` for the generic parameter
abbrev pub self_text : LexiconView → TermRequirement → Text
self_text x r = requirement_text_in x Protocol r

-- ` where ` and the requirements, where there are any
abbrev pub where_text : LexiconView → List TermRequirement → Text
where_text x [] = []
where_text x (r ∷ rs) = codes " where " ++ joined (codes ", ") (map (requirement_text x) (r ∷ rs))

-- `<`, the generic parameters, the requirements, and `>`
abbrev pub signature_text : LexiconView → List ParamId → List TermRequirement → Text
signature_text x params rs = codes "<" ++ (joined (codes ", ") (map param_text params) ++ (where_text x rs ++ codes ">"))
