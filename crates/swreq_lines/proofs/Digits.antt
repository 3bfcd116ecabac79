-- Bytes that do not stand in numbers and names.
use Rattle.std.proofs.Common.{◌≡◌, ◌&&◌, ◌==◌, ◌++◌, ◌∷◌, [], refl, ap, ap₂, ℕ, ◌<◌, ◌^◌, arith, Bool, true, false, length}
use Rattle.std.specs.Prelude.{not}
use Rattle.std.specs.Fmt.{decimal}
use Rattle.std.specs.List.{list_all}
use Rattle.std.proofs.lemmas.Bool.{and_parts, eqb-true}
use Rattle.std.proofs.lemmas.Fmt.{decimal_nonempty}
use Rattle.swreq_print.specs.Names.{Text}
use Rattle.swreq_print.proofs.Digits.{digits_only, in_number}
use Rattle.swreq_lines.specs.Pieces.{IsWithout}

not_it : (inside : ℕ → Bool) (byte c : ℕ) → inside byte ≡ false → inside c ≡ true → (b : Bool) → (c == byte) ≡ b → not b ≡ true
not_it inside byte c n h true e = absurd (let same : c ≡ byte = eqb-true c byte e in let k = ap inside same in cc)
not_it inside byte c n h false e = refl

-- A text of bytes that are inside is without each byte that is not.
pub apart : (inside : ℕ → Bool) (byte : ℕ) → inside byte ≡ false → (t : Text) → list_all inside t ≡ true → IsWithout byte t
apart inside byte n [] h = refl
apart inside byte n (c ∷ t) h =
    let k = and_parts (inside c) (list_all inside t) h in
    ap₂ (λ a b. a && b) (not_it inside byte c n k.0 (c == byte) refl) (apart inside byte n t k.1)

-- ---- digits

pub number_without : (byte : ℕ) → in_number byte ≡ false → (n : ℕ) → n < 2 ^ 32 → IsWithout byte (decimal n)
number_without byte h n l = apart in_number byte h (decimal n) (digits_only n (omega (arith, l)))

-- A number has a digit.
pub some_digit : (n : ℕ) → n < 2 ^ 32 → (rest : Text) → decimal n ++ rest ≡ [] → ⊥
some_digit n l rest e = by (decimal n) (decimal_nonempty n (omega (arith, l))) e
  where
    by : (ds : Text) → 0 < length ds → ds ++ rest ≡ [] → ⊥
    by [] h k = omega (arith, h)
    by (d ∷ ds) h k = cc
