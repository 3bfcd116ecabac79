-- A slice whose ends are cut to the length of the text.
use Rattle.std.proofs.Common.{◌≡◌, ℕ, ◌-◌, List, length, take, drop, min, ◌∙◌, ap, arith}
use Rattle.std.proofs.lemmas.List.{take_min, drop_min, take_all, length-drop}
use Rattle.swreq_decl.specs.Terminals.{slice}

pub cut_slice : (text : List ℕ) (start end n m : ℕ) → n ≡ min end (length text) → m ≡ min start (length (take n text))
    → take (length (take n text) - m) (drop m (take n text)) ≡ slice text start end
cut_slice text start end n m e f =
    take_all (length (take n text) - m) (drop m (take n text)) (omega (arith, length-drop m (take n text)))
    ∙ ap (λ k. drop k (take n text)) f
    ∙ drop_min start (take n text)
    ∙ ap (λ k. drop start (take k text)) e
    ∙ ap (drop start) (take_min end text)
