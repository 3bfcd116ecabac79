-- Lists of which the end is changed.
use Rattle.std.proofs.Common.{◌≡◌, ◌∙◌, sym, ap, ◌+◌, ◌-◌, ◌≤◌, arith, List, ◌++◌, length, map, take, length-append}
use Rattle.std.proofs.Math.Nat.{add-sub_cancel}
use Rattle.std.proofs.Math.Seq.{take-append_seam}
use Rattle.std.proofs.lemmas.List.{length-map, map-append}

module _ {A B : Type 0} (f : A → B) (front own : List A) (list : List B) (are : list ≡ map f (front ++ own)) where
  split : list ≡ map f front ++ map f own
  split = are ∙ map-append f front own

  count : length list ≡ length (map f front) + length own
  count = ap length split ∙ length-append (map f front) (map f own) ∙ ap (λ n. length (map f front) + n) (length-map own f)

  pub own_within : length own ≤ length list
  own_within = omega (arith, count)

  -- without its end the list is that of the front
  pub front_left : take (length list - length own) list ≡ map f front
  front_left =
      ap (λ n. take (n - length own) list) count
      ∙ ap (λ n. take n list) (add-sub_cancel (length (map f front)) (length own))
      ∙ ap (take (length (map f front))) split ∙ take-append_seam (map f front) (map f own)

  -- and with another one that of both
  pub end_changed : (more : List A) → take (length list - length own) list ++ map f more ≡ map f (front ++ more)
  end_changed more = ap (λ z. z ++ map f more) front_left ∙ sym (map-append f front more)
