-- How many items the pieces of a list have.
use Rattle.std.proofs.Common.{◌≡◌, ℕ, ◌+◌, ◌<◌, ◌≤◌, List, length, get_or, take, sym, ap, ◌∙◌, arith}
use Rattle.std.specs.List.{flat_map}
use Rattle.std.proofs.lemmas.List.{take_all}
use Rattle.std.proofs.lemmas.List.Concat.{length-flat_map}
use Rattle.std.proofs.lemmas.List.Sums.{sum_by_more, sum_by-take-le}

module _ {A B : Type 0} (f : A → List B) (xs : List A) (i : ℕ) where
  pub pieces_more : (x : A) (count more : ℕ) → i < length xs → x ≡ get_or xs i x → count ≡ length (flat_map f (take i xs))
      → more ≡ length (f x) → count + more ≡ length (flat_map f (take (i + 1) xs))
  pieces_more x count more h e c m =
      (λ k. (c ∙ length-flat_map f (take i xs)) k + (m ∙ ap (λ y. length (f y)) e) k)
      ∙ sym (sum_by_more (λ y. length (f y)) xs i x h) ∙ sym (length-flat_map f (take (i + 1) xs))

  pub part_le : length (flat_map f (take i xs)) ≤ length (flat_map f xs)
  part_le =
      let a = length-flat_map f (take i xs) in
      let b = length-flat_map f xs in
      let c = sum_by-take-le (λ y. length (f y)) xs i in
      omega (arith, a, b, c)

  pub all_pieces : length xs ≤ i → length (flat_map f (take i xs)) ≡ length (flat_map f xs)
  all_pieces h = ap (λ ys. length (flat_map f ys)) (take_all i xs h)
