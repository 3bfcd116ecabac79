-- Lists cut in two.
use Rattle.std.proofs.Common.{◌≡◌, ℕ, ◌-◌, refl, sym, arith, List, [], ◌∷◌, ◌++◌, length, length-drop, take, drop}
use Rattle.std.proofs.Math.Seq.{drop-append_seam, take-length}

-- the first cut of the two is the one on the left, or the other
pub data Cut {A : Type 0} (a b c d : List A) : Type 0 where
  left : (q : List A) → c ≡ a ++ q → b ≡ q ++ d → Cut a b c d
  right : (e : A) (q : List A) → a ≡ c ++ (e ∷ q) → d ≡ (e ∷ q) ++ b → Cut a b c d

pub cut : {A : Type 0} (a b c d : List A) → a ++ b ≡ c ++ d → Cut a b c d
cut [] b c d h = left c refl h
cut (x ∷ a) b [] d h = right x a refl (sym h)
cut (x ∷ a) b (y ∷ c) d h =
    elim (cut a b c d (cc)) [ left q e f ↦ left q (cc) f | right z q e f ↦ right z q (cc) f ]

-- two cuts at one place are one
pub same_cut : {A : Type 0} (a b c d : List A) → a ++ b ≡ c ++ d → length a ≡ length c → (a ≡ c) × (b ≡ d)
same_cut [] b [] d e h = (refl, e)
same_cut [] b (y ∷ c) d e h = absurd (omega (arith, h))
same_cut (x ∷ a) b [] d e h = absurd (omega (arith, h))
same_cut (x ∷ a) b (y ∷ c) d e h = let r = same_cut a b c d (cc) (omega (arith, h)) in (let f = r.0 in cc, r.1)

-- what stands after a front of this length
pub cut_rest : {A : Type 0} (w before rest : List A) → w ≡ before ++ rest → drop (length before) w ≡ rest
cut_rest w before rest e = rw e (drop-append_seam before rest)

-- all that stands from a place on
pub whole_rest : {A : Type 0} (w : List A) (at : ℕ) → take (length w - at) (drop at w) ≡ drop at w
whole_rest w at = rw (← length-drop at w) (take-length (drop at w))
