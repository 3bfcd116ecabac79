-- What stands at the end of a list where one of several pieces was not written.
use Rattle.std.proofs.Common.{◌≡◌, ◌++◌, ℕ, List}
use Rattle.swreq_text.specs.Joined.{GrewByPart}
use Rattle.swreq_text.proofs.Grown.{grew_next, none_grew}

-- a piece, and nothing after it
pub fails_after : (old mid new piece more : List ℕ) → mid ≡ old ++ piece → new ≡ mid → GrewByPart old (piece ++ more) new
fails_after old mid new piece more whole same = grew_next old mid new piece more whole (none_grew mid more new same)

-- two pieces, and nothing after them
pub fails_after_two : (old mid later new first second more : List ℕ) → mid ≡ old ++ first → later ≡ mid ++ second → new ≡ later
    → GrewByPart old (first ++ (second ++ more)) new
fails_after_two old mid later new first second more whole next same =
    grew_next old mid new first (second ++ more) whole (fails_after mid later new second more next same)

-- three pieces, and nothing after them
pub fails_after_three : (old mid later last new first second third more : List ℕ) → mid ≡ old ++ first
    → later ≡ mid ++ second → last ≡ later ++ third
    → new ≡ last → GrewByPart old (first ++ (second ++ (third ++ more))) new
fails_after_three old mid later last new first second third more whole next then same =
    grew_next old mid new first (second ++ (third ++ more)) whole (fails_after_two mid later last new second third more next then same)
