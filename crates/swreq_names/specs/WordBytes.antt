-- The bytes of words.
use Rattle.std.specs.Prelude.{◌<◌, ◌||◌, ◌==◌, ℕ, Bool, List, length, IsTrue, nat_le}
use Rattle.std.specs.Char.{is_ascii_alphanumeric}
use Rattle.std.specs.List.{list_all}

-- a letter, a digit or `_`, or a byte of a character beyond ASCII
abbrev pub in_word : ℕ → Bool
in_word b = nat_le 128 b || (is_ascii_alphanumeric b || (b == 95))

-- There is at least one byte, and each may stand in a word.
pub record HasWordBytes (bytes : List ℕ) : Type 0 where
  pub some : 0 < length bytes
  pub each : IsTrue (list_all in_word bytes)
