-- Texts with a separator between them, and a list at whose end a part of a text stands.
use Rattle.std.specs.Prelude.{◌≡◌, ℕ, List, [], ◌∷◌, ◌++◌, take}

-- the texts, each after the separator
abbrev pub followed : List ℕ → List (List ℕ) → List ℕ
followed separator [] = []
followed separator (text ∷ rest) = separator ++ (text ++ followed separator rest)

-- the texts, with the separator between each two
abbrev pub joined : List ℕ → List (List ℕ) → List ℕ
joined separator [] = []
joined separator (text ∷ rest) = text ++ followed separator rest

-- the list has grown by a part of the text: all that it had stands there, and after it the first bytes of the text
pub record GrewByPart (old text new : List ℕ) : Type 0 where
  -- how many bytes of the text stand there
  pub count : ℕ
  pub grown : new ≡ old ++ take count text
