-- What the code finds at the front of a text, as what `Reader` finds at the front of its characters. No public promise
-- rests on this file.
use Rattle.std.specs.Prelude.{◌≡◌, ℕ, ◌≤◌, List, length, Option, Some, None, MatchOption}
use Rattle.std.specs.Borrow.{Bor}
use Rattle.std.specs.Str.{chars}
use Rattle.swreq_lex.specs.declared.front.Front.{Front}
use Rattle.swreq_lex.specs.declared.front.Front.TheVariants as fronts
use Rattle.swreq_lex.specs.Reader as reader
use Rattle.swreq_lex.specs.Reader.{first_at}

abbrev pub seen : Front → reader.Front
seen fronts.Nothing = reader.nothing
seen (fronts.Gap rest) = reader.gap (chars rest.now)
seen (fronts.Word rest) = reader.word (chars rest.now)
seen (fronts.Mark n rest) = reader.mark n (chars rest.now)
seen fronts.BadCharacter = reader.bad_character
seen fronts.OpenComment = reader.open_comment

-- the first of the marks that the characters begin with is found, and what is left after it
abbrev pub FindsMark : List (List ℕ) → List ℕ → Option (ℕ × Bor (List ℕ)) → Type 0
FindsMark marks cs found =
    MatchOption found (first_at marks cs ≡ None) (λ x. (first_at marks cs ≡ Some x.0) × (chars x.1.now ≡ reader.past_mark marks x.0 cs))

-- what is left after it has at most this many bytes
abbrev pub IsWithin : Front → ℕ → Type 0
IsWithin fronts.Nothing bytes = Unit {0}
IsWithin (fronts.Gap rest) bytes = length rest.now ≤ bytes
IsWithin (fronts.Word rest) bytes = length rest.now ≤ bytes
IsWithin (fronts.Mark n rest) bytes = length rest.now ≤ bytes
IsWithin fronts.BadCharacter bytes = Unit {0}
IsWithin fronts.OpenComment bytes = Unit {0}
