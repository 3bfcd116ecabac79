-- Three rules whose pairs are told one by one: what their left sides are, and the places of their pairs in order.
use Rattle.std.specs.Prelude.{◌≡◌, ℕ, List, [], ◌∷◌}
use Rattle.std.specs.List.{AllByRecursion}
use Rattle.std.specs.declared.cmp.Ordering.TheVariants.{Less}
use Rattle.swreq_rule.specs.swreq_word.declared.symbols.Symbol.{Symbol}
use Rattle.swreq_rule.specs.swreq_word.declared.symbols.Symbol.TheVariants.{Name}
use Rattle.swreq_rule.specs.declared.rules.Rule.{Rule}
use Rattle.swreq_rule.specs.declared.rules.Place.{Place}
use Rattle.swreq_rule.specs.Places.{place_cmp}
use Rattle.swreq_pair.specs.Pairs.{HasPair}

abbrev pub a : Symbol
a = Name 0

abbrev pub b : Symbol
b = Name 1

abbrev pub place_with : ℕ → ℕ → ℕ → Place
place_with i j at = record { i = i; j = j; at = at }

-- Places go by the greater number, then by the first, then by the second, then from the left.
abbrev pub ordered_places : List Place
ordered_places = place_with 1 2 1 ∷ place_with 2 1 1 ∷ place_with 1 3 1 ∷ place_with 3 2 2 ∷ place_with 3 3 1 ∷ place_with 3 3 2 ∷ []

-- each place comes before the next one
abbrev pub AreInOrder : List Place → Type 0
AreInOrder [] = Unit {0}
AreInOrder (p ∷ []) = Unit {0}
AreInOrder (p ∷ q ∷ rest) = (place_cmp p q ≡ Less) × AreInOrder (q ∷ rest)

-- Rules with the left sides ab, ba and bbb have pairs at these places.
abbrev pub HavePairs : Rule → Rule → Rule → List Place → Type 0
HavePairs first second third places =
    first.left ≡ a ∷ b ∷ [] → second.left ≡ b ∷ a ∷ [] → third.left ≡ b ∷ b ∷ b ∷ []
    → AllByRecursion (HasPair (first ∷ second ∷ third ∷ [])) places
