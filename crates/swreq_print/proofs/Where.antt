-- The requirements of a signature over the ids of a table.
use Rattle.std.proofs.Common.{◌≡◌, ◌++◌, ◌<◌, [], ◌∷◌, List, length, map, codes, ap, arith}
use Rattle.std.proofs.lemmas.Simd.{map-map}
use Rattle.swreq_lexicon.specs.swreq_param.Terms.{Term}
use Rattle.swreq_text.specs.Joined.{joined}
use Rattle.swreq_lexicon.specs.swreq_derive.declared.requirements.Requirement.{Requirement}
use Rattle.swreq_lexicon.specs.swreq_derive.Facts.{requirement_of}
use Rattle.swreq_lexicon.specs.Views.{LexiconView}
use Rattle.swreq_print.specs.Names.{Text}
use Rattle.swreq_print.specs.Signatures.{requirement_text, where_text}

-- the text of a requirement over the table
abbrev pub text_over : LexiconView → List Term → Requirement → Text
text_over x terms r = requirement_text x (requirement_of terms r)

-- There are requirements, so they are printed.
pub where_of_some : (x : LexiconView) (terms : List Term) (rs : List Requirement) → 0 < length rs
    → where_text x (map (requirement_of terms) rs) ≡ codes " where " ++ joined (codes ", ") (map (text_over x terms) rs)
where_of_some x terms [] some = absurd (omega (arith, some))
where_of_some x terms (r ∷ rs) some =
    ap (λ ts. codes " where " ++ joined (codes ", ") ts) (map-map (requirement_text x) (requirement_of terms) (r ∷ rs))
