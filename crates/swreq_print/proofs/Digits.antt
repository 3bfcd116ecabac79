-- The bytes of numbers in decimal.
use Rattle.std.proofs.Common.{◌≡◌, ◌&&◌, ◌++◌, ◌∷◌, [], refl, ℕ, ◌+◌, ◌<◌, ◌^◌, ◌%◌, arith, Bool, true, nat_le}
use Rattle.std.specs.Fmt.{decimal}
use Rattle.std.specs.List.{list_all}
use Rattle.std.proofs.lemmas.Bool.{and_parts}
use Rattle.std.proofs.lemmas.Fmt.{decimal_by_steps}
use Rattle.swreq_print.specs.Names.{Text}

abbrev pub in_number : ℕ → Bool
in_number c = nat_le 48 c && nat_le c 57

glyph : (n : ℕ) → n < 10 → in_number (48 + n) ≡ true
glyph n lt = search (arith, lt)

all_snoc : (ds : Text) (c : ℕ) → list_all in_number ds ≡ true → in_number c ≡ true → list_all in_number (ds ++ c ∷ []) ≡ true
all_snoc [] c e f = rw f refl
all_snoc (d ∷ ds) c e f = let p = and_parts (in_number d) _ e in rw (p.0) (all_snoc ds c p.1 f)

pub digits_only : (n : ℕ) → n < 2 ^ 64 → list_all in_number (decimal n) ≡ true
digits_only = decimal_by_steps (λ n bs. list_all in_number bs ≡ true) (λ n lt. rw (glyph n lt) refl)
    (λ n ds big e. all_snoc ds (48 + n % 10) e (glyph (n % 10) (omega arith)))
