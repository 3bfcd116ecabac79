-- Texts in pieces.
use Rattle.std.specs.Prelude.{◌≡◌, ◌==◌, ℕ, true, not, [], ◌∷◌}
use Rattle.std.specs.List.{list_all}
use Rattle.swreq_print.specs.Names.{Text}

-- The byte stands nowhere in the text.
abbrev pub IsWithout : ℕ → Text → Type 0
IsWithout byte t = list_all (λ c. not (c == byte)) t ≡ true

-- The text is at its end, or goes on with the byte.
abbrev pub Ends : ℕ → Text → Type 0
Ends byte [] = Unit {0}
Ends byte (c ∷ t) = c ≡ byte

-- what follows the first byte
abbrev pub behind : Text → Text
behind [] = []
behind (c ∷ t) = t
