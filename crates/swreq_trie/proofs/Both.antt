-- The places of a new side with the sides of two lists.
use Rattle.std.proofs.Common.{◌≡◌, ◌⊎◌, inl, inr, ℕ, ◌+◌, List, [], ◌++◌, length, slice_get, Some, ◌∙◌}
use Rattle.swreq_rule.specs.swreq_word.declared.symbols.Symbol.{Symbol}
use Rattle.swreq_rule.specs.declared.rules.Place.{Place}
use Rattle.swreq_rule.proofs.swreq_lemmas.Elements.{get_left, get_after, get_either}
use Rattle.swreq_trie.specs.declared.trie.Entry.{Entry}
use Rattle.swreq_trie.specs.Places.{IsOnto, IsFrom, IsPlace}
use Rattle.swreq_trie.specs.Keys.{Gains, place_of}
use Rattle.swreq_trie.proofs.Collecting.{gains_on}

-- a place with a stored side is one with the same side of another list, wherever it stands there
module _ (stored others : List Entry) (left : List Symbol) (number k j at : ℕ) (place : Place) where
  onto_there : (o : IsOnto stored left number k at place) → slice_get others j ≡ Some o.entry → IsOnto others left number j at place
  onto_there o is = record { entry = o.entry; is_entry = is; below = o.below; meets = o.meets; place_is = o.place_is }

  from_there : (o : IsFrom stored left number k at place) → slice_get others j ≡ Some o.entry → IsFrom others left number j at place
  from_there o is = record { entry = o.entry; is_entry = is; below = o.below; meets = o.meets; place_is = o.place_is }

-- where each stored side stands in another list too, each place with one is one with that list
moved : (stored others : List Entry) (left : List Symbol) (number : ℕ)
    → ((k : ℕ) (entry : Entry) → slice_get stored k ≡ Some entry → (j : ℕ) × (slice_get others j ≡ Some entry))
    → (place : Place) → IsPlace stored left number place → IsPlace others left number place
moved stored others left number there place (inl (k, at, o)) =
    let h = there k o.entry o.is_entry in inl (h.0, at, onto_there stored others left number k h.0 at place o h.1)
moved stored others left number there place (inr (inl (k, at, o))) =
    let h = there k o.entry o.is_entry in inr (inl (h.0, at, from_there stored others left number k h.0 at place o h.1))
moved stored others left number there place (inr (inr o)) = inr (inr o)

module _ (below own : List Entry) (left : List Symbol) (number : ℕ) where
  of_first : (place : Place) → IsPlace below left number place → IsPlace (below ++ own) left number place
  of_first = moved below (below ++ own) left number (λ k entry is. (k, get_left below own k entry is))

  of_second : (place : Place) → IsPlace own left number place → IsPlace (below ++ own) left number place
  of_second = moved own (below ++ own) left number (λ k entry is. (length below + k, get_after below own k ∙ is))

  of_either : (place : Place) → IsPlace (below ++ own) left number place → IsPlace below left number place ⊎ IsPlace own left number place
  of_either place (inl (k, at, o)) = elim (get_either below own k o.entry o.is_entry) [
    | inl h ↦ inl (inl (k, at, onto_there (below ++ own) below left number k k at place o h))
    | inr h ↦ inr (inl (h.0, at, onto_there (below ++ own) own left number k h.0 at place o h.2))
  ]
  of_either place (inr (inl (k, at, o))) = elim (get_either below own k o.entry o.is_entry) [
    | inl h ↦ inl (inr (inl (k, at, from_there (below ++ own) below left number k k at place o h)))
    | inr h ↦ inr (inr (inl (h.0, at, from_there (below ++ own) own left number k h.0 at place o h.2)))
  ]
  of_either place (inr (inr o)) = inl (inr (inr o))

  pub gained_of_both : (a b : List (ℕ × ℕ × ℕ)) → Gains (λ key. IsPlace below left number (place_of key)) [] a
      → Gains (λ key. IsPlace own left number (place_of key)) a b → Gains (λ key. IsPlace (below ++ own) left number (place_of key)) [] b
  gained_of_both a b =
      gains_on (λ key. IsPlace below left number (place_of key)) (λ key. IsPlace own left number (place_of key))
      (λ key. IsPlace (below ++ own) left number (place_of key)) [] a b
      (λ key. of_first (place_of key)) (λ key. of_second (place_of key)) (λ key. of_either (place_of key))
