-- The line that answers a call.
use Rattle.std.specs.Prelude.{◌≡◌, ◌⊎◌, ℕ, ◌-◌, List, [], ◌∷◌, ◌++◌, Contains, Option, Some, None, codes, map, slice_get}
use Rattle.std.specs.Option.{option_map_or}
use Rattle.swreq_text.specs.Joined.{joined}
use Rattle.swreq_machine.specs.swreq_derive.Derivation.{Derivable, TermRequirement}
use Rattle.swreq_machine.specs.swreq_derive.Derivation.TermStatement.{IsValid}
use Rattle.swreq_machine.specs.swreq_param.Terms.{Term}
use Rattle.swreq_print.specs.Names.{Text}
use Rattle.swreq_print.specs.Signatures.{requirement_text}
use Rattle.swreq_machine.specs.swreq_lexicon.Views.{LexiconView}
use Rattle.swreq_machine.specs.swreq_world.FactsAt.{facts_of, source_of, written_list}
use Rattle.swreq_machine.specs.swreq_world.Worlds.{TextWorld, signature_at}
use Rattle.swreq_subst.specs.Calls.{TermCall}
use Rattle.swreq_subst.specs.Failing.{AreFailingWith}

-- the text of the n-th requirement, counted from 1
abbrev pub text_at : LexiconView → List TermRequirement → ℕ → Text
text_at x rs n = option_map_or (requirement_text x) (slice_get rs (n - 1)) []

-- `yes` where none fails, and otherwise `no: ` and the failing ones in order, as the callee's list has them
abbrev pub verdict_text : LexiconView → List TermRequirement → List ℕ → Text
verdict_text x rs [] = codes "yes\n"
verdict_text x rs (n ∷ ns) = codes "no: " ++ (joined (codes ", ") (map (text_at x rs) (n ∷ ns)) ++ codes "\n")

-- A type of the call is not derivable from the caller's list. None is no type parameter of the text, and derivable from no list.
abbrev pub IsInvalid : TextWorld → TermCall → Option Term → Type 0
IsInvalid w c None = Unit {0}
IsInvalid w c (Some t) = Derivable (facts_of w) (source_of (signature_at w c.f)) (IsValid t) → ⊥

abbrev pub HasInvalid : TextWorld → TermCall → Type 0
HasInvalid w c = (a : Option Term) × Contains c.args a × IsInvalid w c a

-- Each of the types is derivable from the caller's list.
abbrev pub AreValid : TextWorld → TermCall → List Term → Type 0
AreValid w c ts = (t : Term) → Contains ts t → Derivable (facts_of w) (source_of (signature_at w c.f)) (IsValid t)

-- The line answers the call: it is `invalid` where a type is not derivable, and otherwise that of the failing requirements of the callee.
abbrev pub IsLineOf : TextWorld → TermCall → Text → Type 0
IsLineOf w c line =
    (HasInvalid w c × (line ≡ codes "invalid\n"))
    ⊎ ((ts : List Term) × (ns : List ℕ) × AreFailingWith w c ts ns × AreValid w c ts
    × (line ≡ verdict_text w.lexicon (written_list (signature_at w c.g)) ns))

-- The new text is the old one with the line of the call after it.
abbrev pub AppendsLine : TextWorld → TermCall → Text → Text → Type 0
AppendsLine w c old new = (line : Text) × IsLineOf w c line × (new ≡ old ++ line)
