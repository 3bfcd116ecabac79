-- Names by rank.
use Rattle.std.proofs.Common.{◌≤◌, List, length, get_or, Contains, sym, ap, ◌∙◌}
use Rattle.std.specs.Str.{bytes_eq}
use Rattle.std.specs.List.{IsDistinct}
use Rattle.std.specs.Ordering.{is_eq}
use Rattle.std.specs.Cmp.Lexicographic.{texts_ties, nat_list_eq_equiv, same_text}
use Rattle.std.proofs.lemmas.Map.Keys.{IsDistinct-from_apart}
use Rattle.std.proofs.lemmas.Map.Made.{length-le_from_is_member}
use Rattle.std.proofs.lemmas.Map.Views.{Contains-from_any, list_any-from_Contains}
use Rattle.std.specs.FinSet.{nat_cmp-IsAntisymmetric, slice_cmp-IsAntisymmetric}
use Rattle.swreq_rank.specs.Ranks.{Bytes, TellsApart, bytes_cmp}
use Rattle.swreq_rank.proofs.Rising.{IsRising}

pub bytes_apart : TellsApart bytes_cmp
bytes_apart = slice_cmp-IsAntisymmetric nat_cmp-IsAntisymmetric

apart : (xs : List Bytes) → IsRising bytes_cmp xs → IsDistinct bytes_eq xs
apart xs r = IsDistinct-from_apart bytes_eq xs (λ i j d h l. texts_ties (get_or xs i d) (get_or xs j d) ∙ ap is_eq (r i j d h l))

-- names that are told apart are no more than those of a list that has them
pub distinct_names : (xs ys : List Bytes) → IsDistinct bytes_eq xs → ((q : Bytes) → Contains xs q → Contains ys q) → length xs ≤ length ys
distinct_names xs ys distinct within =
    length-le_from_is_member nat_list_eq_equiv xs ys distinct
    (λ q h. list_any-from_Contains nat_list_eq_equiv q ys (within q (Contains-from_any (λ x y e. same_text x y (sym e)) q xs h)))

pub few_names : (xs ys : List Bytes) → IsRising bytes_cmp xs → ((q : Bytes) → Contains xs q → Contains ys q) → length xs ≤ length ys
few_names xs ys r within = distinct_names xs ys (apart xs r) within
