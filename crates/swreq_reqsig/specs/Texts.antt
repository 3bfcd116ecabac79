-- The texts of requirement signatures.
use Rattle.std.specs.Prelude.{ℕ, List, [], ◌∷◌, ◌++◌, codes, map}
use Rattle.swreq_text.specs.Joined.{joined}
use Rattle.swreq_valid.specs.swreq_param.declared.ids.ProtoId.{ProtoId}
use Rattle.swreq_valid.specs.swreq_derive.Derivation.{TermRequirement}
use Rattle.swreq_valid.specs.swreq_lexicon.Views.{LexiconView}
use Rattle.swreq_print.specs.Names.{Text, protocol_name}
use Rattle.swreq_print.specs.Signatures.{self_text}
use Rattle.swreq_valid.specs.swreq_symbols.Meaning.{facts_of}
use Rattle.swreq_valid.specs.swreq_world.Worlds.{TextWorld}
use Rattle.swreq_reqsig.specs.Families.{numbered}

-- ` where ` and the requirements with `Self` for the generic parameter, where there are any
abbrev pub where_text : LexiconView → List TermRequirement → Text
where_text x [] = []
where_text x (r ∷ rs) = codes " where " ++ joined (codes ", ") (map (self_text x) (r ∷ rs))

-- The requirement signature of P, on its line: `P: <Self where Self : Q>`.
abbrev pub protocol_line : LexiconView → ProtoId → List TermRequirement → Text
protocol_line x p rs = protocol_name x p ++ (codes ": <Self" ++ (where_text x rs ++ (codes ">" ++ 10 ∷ [])))

-- the requirements of P with these numbers
abbrev pub kept_of : TextWorld → ProtoId → List ℕ → List TermRequirement
kept_of w p ns = numbered ((facts_of w).of_protocol p) ns

-- the lines of these protocols
abbrev pub protocol_lines : TextWorld → List ProtoId → List (List ℕ) → Text
protocol_lines w [] kept = []
protocol_lines w (p ∷ ps) [] = []
protocol_lines w (p ∷ ps) (ns ∷ kept) = protocol_line w.lexicon p (kept_of w p ns) ++ protocol_lines w ps kept

-- A line for each protocol, in written order, with the requirements that have these numbers.
abbrev pub family_text : TextWorld → List (List ℕ) → Text
family_text w kept = protocol_lines w w.lexicon.written_order kept
