-- The word in which the left sides of two rules meet, and what each of the rules makes of it.
use Rattle.std.specs.Prelude.{◌≡◌, ℕ, List, ◌++◌, drop, length, take}
use Rattle.swreq_param.specs.{declared.ids.TermId.{TermId}, Tables.{IsOf, term_at}}
use Rattle.swreq_correspondence.specs.swreq_word.declared.symbols.Symbol.{Symbol}
use Rattle.swreq_complete.specs.swreq_rule.declared.rules.Rule.{Rule}
use Rattle.swreq_derivation.specs.declared.derivation.Derivation.{Derivation}
use Rattle.swreq_readings.specs.declared.alphabet.Alphabet.{Alphabet}
use Rattle.swreq_readings.specs.Readable.{AllowsWord, AreReadEqual, ReadsAlike, read_word}

-- what the first of two words has past the length of the second
abbrev pub past : List Symbol → List Symbol → List Symbol
past u v = drop (length v) u

-- what stands after the left side of the first rule, in the word that has that of the second at this place
abbrev pub after_first : Rule → Rule → ℕ → List Symbol
after_first first second at = past second.left (drop at first.left)

-- what stands after the left side of the second rule there
abbrev pub after_second : Rule → Rule → ℕ → List Symbol
after_second first second at = past (drop at first.left) second.left

-- One word begins with the left side of the first rule, and has that of the second at this place. It ends where the later of the two does.
abbrev pub MeetAt : Rule → Rule → ℕ → Type 0
MeetAt first second at =
    first.left ++ after_first first second at ≡ take at first.left ++ (second.left ++ after_second first second at)

-- what the first rule makes of the word
abbrev pub first_made : Rule → Rule → ℕ → List Symbol
first_made first second at = first.right ++ after_first first second at

-- what the second rule makes of the word
abbrev pub second_made : Rule → Rule → ℕ → List Symbol
second_made first second at = take at first.left ++ (second.right ++ after_second first second at)

-- The left sides meet in one word. The two sides of the first rule are read alike after T, and those of the second after what is read
-- before the place.
pub record AreReadToMeet (g : Alphabet) (s : Derivation) (t : TermId) (first second : Rule) (at : ℕ) : Type 0 where
  pub meet : MeetAt first second at
  pub subject : IsOf s.table t
  pub whole : ReadsAlike g s s t first.left first.right
  pub part : AreReadEqual g s (read_word g (term_at s.table t) (take at first.left)) second.left second.right

-- Lines allow a word after T. Two words are read alike after what stands before a part of it, and the first of the two is that part.
pub record IsReplaceable (g : Alphabet) (s : Derivation) (t : TermId) (before from to after : List Symbol) : Type 0 where
  pub subject : IsOf s.table t
  pub both : AreReadEqual g s (read_word g (term_at s.table t) before) from to
  pub word : AllowsWord g s (term_at s.table t) (before ++ (from ++ after))

-- Each of two words is read alike with a third one after T.
pub record AreReadVia (g : Alphabet) (s : Derivation) (t : TermId) (via from to : List Symbol) : Type 0 where
  pub subject : IsOf s.table t
  pub first : ReadsAlike g s s t via from
  pub second : ReadsAlike g s s t via to
