-- Lists that are made item by item.
use Rattle.std.proofs.Common.{◌≡◌, sym, ap, ◌∙◌, ℕ, ◌<◌, ◌≤◌, ◌+◌, List, [], ◌∷◌, ◌++◌, length, drop, get_or}
use Rattle.std.proofs.lemmas.List.{append-nil, drop_all}
use Rattle.std.proofs.lemmas.Option.{slice_get-get_or}
use Rattle.swreq_valid.proofs.OfProtocols.{part_at}

-- ---- lists that are made item by item

-- one more part of a list that is made front to back
module _ {A B : Type 0} (of : List A → List B) (part : A → List B) (none : of [] ≡ [])
    (one : (x : A) (xs : List A) → of (x ∷ xs) ≡ part x ++ of xs) where
  pub part_more : (xs : List A) (k : ℕ) (d : A) (v w all : List B) → k < length xs → w ≡ v ++ part (get_or xs k d)
      → v ++ of (drop k xs) ≡ all
      → w ++ of (drop (k + 1) xs) ≡ all
  part_more xs k d v w all l f h = part_at of part one xs k (get_or xs k d) v w all (slice_get-get_or xs k d l) f h

  pub parts_all : (xs : List A) (k : ℕ) (v all : List B) → length xs ≤ k → v ++ of (drop k xs) ≡ all → v ≡ all
  parts_all xs k v all l h = sym (append-nil v) ∙ ap (λ z. v ++ z) (sym (ap of (drop_all k xs l) ∙ none)) ∙ h
