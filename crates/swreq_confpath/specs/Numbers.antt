-- The text of a conformance path.
use Rattle.std.specs.Prelude.{ℕ, ◌-◌, List, [], ◌∷◌, ◌++◌, codes, slice_index_or}
use Rattle.swreq_machine.specs.swreq_param.declared.ids.ProtoId.{ProtoId}
use Rattle.swreq_machine.specs.swreq_param.Terms.{Term, self}
use Rattle.swreq_machine.specs.swreq_derive.Derivation.{TermFacts, TermRequirement}
use Rattle.swreq_machine.specs.swreq_derive.Derivation.TermRequirement.{Conforms, IsAnyObject, Equals}
use Rattle.swreq_machine.specs.swreq_derive.Instances.{HasNumber}
use Rattle.swreq_print.specs.Names.{Text}
use Rattle.swreq_print.specs.Signatures.{requirement_text, self_text}
use Rattle.swreq_machine.specs.swreq_lexicon.Views.{LexiconView}

-- ---- numbers of conformances

-- After a conformance that names Q the numbers are those of conformances, each of the protocol that the one before it names.
abbrev pub AreNumbersBehind : TermFacts → ProtoId → List ℕ → Type 0
AreNumbersBehind f q [] = Unit {0}
AreNumbersBehind f q (n ∷ ns) = (v : Term) × (r : ProtoId) × HasNumber n (f.of_protocol q) (Conforms v r) × AreNumbersBehind f r ns

-- The numbers are those of conformances, the first in the list of a signature.
abbrev pub AreNumbers : TermFacts → List TermRequirement → ℕ → List ℕ → Type 0
AreNumbers f written first steps = (t : Term) × (p : ProtoId) × HasNumber first written (Conforms t p) × AreNumbersBehind f p steps

-- ---- their text

abbrev pub first_protocol : ProtoId
first_protocol = record { rank = 0 }

-- the n-th requirement, counted from 1
abbrev pub requirement_at : List TermRequirement → ℕ → TermRequirement
requirement_at rs n = slice_index_or rs (n - 1) (Conforms self first_protocol)

-- the protocol that a conformance names
abbrev pub protocol_named : TermRequirement → ProtoId
protocol_named (Conforms t p) = p
protocol_named (IsAnyObject t) = first_protocol
protocol_named (Equals t u) = first_protocol

abbrev pub in_brackets : Text → Text
in_brackets t = codes "[" ++ (t ++ codes "]")

-- the conformances of these numbers, each in brackets, with `Self` for the generic parameter
abbrev pub steps_text : LexiconView → TermFacts → ProtoId → List ℕ → Text
steps_text x f q [] = []
steps_text x f q (n ∷ ns) =
    in_brackets (self_text x (requirement_at (f.of_protocol q) n))
    ++ steps_text x f (protocol_named (requirement_at (f.of_protocol q) n)) ns

-- all conformances of a path, each in brackets: the first as the signature requires it
abbrev pub path_text : LexiconView → TermFacts → List TermRequirement → ℕ → List ℕ → Text
path_text x f written first steps =
    in_brackets (requirement_text x (requirement_at written first))
    ++ steps_text x f (protocol_named (requirement_at written first)) steps
