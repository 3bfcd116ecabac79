-- What a loop of reads or writes has done so far.
use Rattle.std.proofs.Common.{◌≡◌, ℕ, ◌+◌, List, ◌++◌, length, take, drop, Option, Some, None, sym, ◌∙◌, ap, subst, arith, length-append}
use Rattle.std.specs.Io.KnownBytes.{Appends, Consumes}
use Rattle.std.proofs.KnownBytes.{Appends-trans}
use Rattle.std.proofs.Math.Seq.{take-add}
use Rattle.swreq_text.specs.Given.{HasGiven}

-- a source that gave these bytes has given no other number of them
pub HasGiven-length : (old new : Option (List ℕ)) (bytes : List ℕ) (n : ℕ) → Consumes old new bytes → HasGiven old new n → length bytes ≡ n
HasGiven-length None new bytes n came given = absurd given
HasGiven-length (Some left) None bytes n came given = absurd given
HasGiven-length (Some left) (Some rest) bytes n came given = omega (arith, ap length came, length-append bytes rest, given)

-- a piece is appended after the bytes before it
pub Appends-more : (old mid new : Option (List ℕ)) (bytes piece : List ℕ) (at n : ℕ) → piece ≡ drop at bytes
    → Appends old mid (take at bytes) → Appends mid new (take n piece) → Appends old new (take (at + n) bytes)
Appends-more old mid new bytes piece at n is so_far more =
    let joined : take at bytes ++ take n piece ≡ take (at + n) bytes =
    ap (λ (l : List ℕ). take at bytes ++ take n l) is ∙ sym (take-add at n bytes) in
    subst (Appends old new) joined (Appends-trans old mid new (take at bytes) (take n piece) so_far more)
